-- What holds of results.
use Rattle.std.proofs.Common.{◌≡◌, Result, Ok, Err, OnErr, OnOk, is_ok, true}

-- what holds holds on an error
pub on_err : {T E P : Type 0} (r : Result T E) → P → OnErr r P
on_err (Ok x) p = tt
on_err (Err e) p = p

-- what holds on success holds of a success
pub holds_where_ok : {T E P : Type 0} (r : Result T E) → is_ok r ≡ true → OnOk r P → P
holds_where_ok (Ok x) ok p = p
holds_where_ok (Err e) ok p = absurd (cc)
