-- Entries as tuples, one after the other.
use Rattle.std.proofs.Common.{◌≡◌, ◌∙◌, ℕ, ◌+◌, ◌<◌, ◌++◌, ◌∷◌, [], List, append_assoc, get_or, length, map, take}
use Rattle.std.specs.Prelude.{ℤ}
use Rattle.std.proofs.lemmas.List.{map-append, take_more}
use Rattle.algebra.specs.declared.domain.Domain.{Domain}
use Rattle.model.specs.declared.entry.Entry.{Entry}
use Rattle.session.specs.Listed.{tuple_of}

-- one tuple more
pub tuples_more : (domain : Domain) (es : List Entry) (k : ℕ) (d e : Entry) (old before after : List (ℕ × ℕ × ℤ))
    (tuple : ℕ × ℕ × ℤ) → k < length es → get_or es k d ≡ e → before ≡ old ++ map (tuple_of domain) (take k es)
    → after ≡ before ++ tuple ∷ [] → tuple ≡ tuple_of domain e
    → after ≡ old ++ map (tuple_of domain) (take (k + 1) es)
tuples_more domain es k d e old before after tuple within at so_far more is =
    more ∙ rw (so_far, is, take_more es k d within, at, map-append (tuple_of domain) (take k es) (e ∷ []))
    (append_assoc old (map (tuple_of domain) (take k es)) (tuple_of domain e ∷ []))
