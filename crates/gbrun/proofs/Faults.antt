-- What a fault that is passed on keeps.
use Rattle.std.proofs.Common.{◌≡◌, subst, sym}
use Rattle.std.specs.Prelude.{Result, Ok, Err, IfErr, IsErrAnd}

pub IfErr-passed_on : {T E : Type 0} (r : Result T E) (e : E) (P : E → Type 0) → IsErrAnd r (λ got. got ≡ e) → P e
    → IfErr r P
IfErr-passed_on (Ok x) e P is holds = tt
IfErr-passed_on (Err got) e P is holds = subst P (sym is) holds

pub passed_on : {T E : Type 0} (r : Result T E) (e : E) (P : Result T E → Type 0) → IsErrAnd r (λ got. got ≡ e)
    → P (Err e) → P r
passed_on (Ok x) e P is holds = absurd is
passed_on (Err got) e P is holds = subst (λ other. P (Err other)) (sym is) holds
