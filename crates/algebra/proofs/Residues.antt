-- Words modulo 2 ^ 64 against whole numbers.
use Rattle.std.proofs.Common.{◌≡◌, ℕ, suc, ◌-◌, ◌^◌, ◌<◌, ltb, false, sym, ◌∙◌, ap, inl, inr, arith, rules}
use Rattle.std.specs.Prelude.{ℤ, pos, negsuc}
use Rattle.std.specs.Int.{cast_signed, cast_unsigned, w64, int_wrap}
use Rattle.std.specs.Int.RustNames.{FitsSigned}
use Rattle.std.proofs.lemmas.Bool.{cases_Bool, ltb-true}
use Rattle.std.proofs.lemmas.Bool.Decides.{nat_tests}
use Rattle.std.proofs.lemmas.Int.{of_z-to_z, int_wrap_fits}
use Rattle.algebra.specs.Value.{residue}

-- a residue is a word
pub residue-lt : (z : ℤ) → residue z < 2 ^ 64
residue-lt (pos n) = omega arith
residue-lt (negsuc n) = omega arith

-- a word whose signed value is a wrapped number is that number's residue
pub residue_from_wrap : (m : ℕ) (z : ℤ) → m < 2 ^ 64 → cast_signed w64 m ≡ int_wrap w64 z → m ≡ residue z
unfolding int_wrap
residue_from_wrap m z small e =
    sym (of_z-to_z w64 m small) ∙ ap (cast_unsigned w64) e ∙ of_z-to_z w64 (residue z) (residue-lt z)

-- the signed value of any word fits 64 bits
pub signed-fits : (word : ℕ) → FitsSigned w64 (cast_signed w64 word)
signed-fits word =
    elim (cases_Bool (ltb word (2 ^ 64))) [
      | inl small ↦ let below : word < 2 ^ 64 = ltb-true word (2 ^ 64) small in search rules
      | inr large ↦ let wide : (2 ^ 64 - suc word) ≡ 0 = grind (arith, nat_tests) in let past : ltb word (2 ^ 63) ≡ false = grind (arith, nat_tests) in rw (past, wide) (search rules)
    ]

-- a signed value that is brought back into 64 bits is the same
pub signed-residue : (word : ℕ) → cast_signed w64 (residue (cast_signed w64 word)) ≡ cast_signed w64 word
unfolding int_wrap
signed-residue word = int_wrap_fits w64 _ (signed-fits word)

-- a word is the residue of its signed value
pub residue-signed : (word : ℕ) → word < 2 ^ 64 → residue (cast_signed w64 word) ≡ word
residue-signed word small = sym (residue_from_wrap word _ small (sym (int_wrap_fits w64 _ (signed-fits word))))
