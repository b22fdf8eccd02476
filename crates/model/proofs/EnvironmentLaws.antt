-- Environments that have the same objects.
use Rattle.std.proofs.Common.{◌≡◌}
use Rattle.model.specs.Run.{Environment}

pub environments_equal : {K : Type 0} (a b : Environment K) → ((name : K) → a.find_object name ≡ b.find_object name)
    → a.count ≡ b.count → a ≡ b
environments_equal a b same count = λ i. record { find_object = λ name. same name i; count = count i }
