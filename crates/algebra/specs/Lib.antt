pub mod Functions
pub mod IndexOperators
pub mod Monoids
pub mod Names
pub mod OperatorNames
pub mod Operators
pub mod UnaryOperators
pub mod Value
