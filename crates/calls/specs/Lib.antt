pub mod Checks
pub mod Recipes
pub mod Roles
pub mod Stores
pub mod Straight
pub mod Turned
