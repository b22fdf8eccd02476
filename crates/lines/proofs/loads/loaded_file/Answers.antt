-- Only a well-formed line whose first byte is that of a load names a file.
use Rattle.std.proofs.Common.{◌≡◌, ◌∙◌, codes, false, true, inl, inr, map, refl, rules, sym, ap}
use Rattle.std.specs.Option.{option_and_then}
use Rattle.std.proofs.lemmas.Bool.{cases_Bool, true≢false}
use Rattle.model.specs.Grammar.{command_of, is_called, is_well_formed, words_of}
use Rattle.model.specs.Loads.{file_named}
use Rattle.lines.proofs.LoadLaws.{line_file, not_load}
use Rattle.lines.proofs.loads.loaded_file.Goals as goal

pub returns-then-not-may_load : goal.returns-then-not-may_load
returns-then-not-may_load c =
    let words = words_of c.args.line.now in
    let other : is_called words (codes "load") ≡ false = elim (cases_Bool (is_called words (codes "load"))) [
      | inl load ↦ let no : c.may_load.result ≡ false = search rules in absurd (true≢false (sym (c.may_load.ensures load) ∙ no))
      | inr apart ↦ apart
    ] in
    sym (line_file c.args.line.now ∙ elim (cases_Bool (is_well_formed c.args.line.now)) [
      | inl formed ↦ rw formed (not_load words other)
      | inr malformed ↦ rw malformed refl
    ])

pub returns-in-Err-Syntax : goal.returns-in-Err-Syntax
returns-in-Err-Syntax c =
    let malformed : is_well_formed c.args.line.now ≡ false = c.in-Err-Syntax.ensures.formed c.in-Err-Syntax.field-0-is in
    sym (rw malformed at (line_file c.args.line.now))

pub returns-in-Ok : goal.returns-in-Ok
returns-in-Ok c =
    let formed : is_well_formed c.args.line.now ≡ true = c.in-Ok.ensures.formed in
    let words : map (λ word. word.now) c.as_slice.result.now ≡ words_of c.args.line.now = search rules in
    c.file_of.ensures ∙ ap (λ words. option_and_then file_named (command_of words)) words ∙ sym (rw formed at (line_file c.args.line.now))
