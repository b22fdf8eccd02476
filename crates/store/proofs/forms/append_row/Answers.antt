use Rattle.std.proofs.Common.{◌≡◌, ◌*◌, ◌∙◌, ◌+◌, append-nil, arith, refl, rules, sym, Result, Ok, Err, OnOk}
use Rattle.std.proofs.lemmas.Bool.Decides.{nat_tests}
use Rattle.bitmap.specs.Bitmaps.{row_part}
use Rattle.model.specs.declared.entry.Entry.{Entry}
use Rattle.model.specs.Entries.{word_at}
use Rattle.store.proofs.Content.{nothing_outside}
use Rattle.store.proofs.RowParts.{all_parts, next_part, part_zero, put_more}
use Rattle.store.proofs.forms.append_row.Goals as goal
use Rattle.store.proofs.forms.append_row.Goals.{After-loop-part}

pub loop-part-init : goal.loop-part-init
loop-part-init c = rw (part_zero (word_at c.args.bitmap.now.entries) c.args.i 0) (record { ends = refl; inner = sym (append-nil _); words = sym (append-nil _) })

pub append_part-requires : goal.append_part-requires
append_part-requires c = let most = c.row_parts-part-end.ensures.bound in omega (arith, c.loop-part-test.true)

pub loop-part-preserved : goal.loop-part-preserved
loop-part-preserved c =
    let s = c.loop-part in
    let made = c.in_ok-append_part.ensures in
    let map_is = word_at c.args.bitmap.now.entries in
    let before = row_part map_is c.args.i 0 (64 * s.part) in
    let more = row_part map_is c.args.i (64 * s.part) 64 in
    let after = row_part map_is c.args.i 0 (64 * (s.part + 1)) in
    record {
      ends = made.ends ∙ s.invariant.ends;
      inner = put_more (λ (e : Entry). e.col) _ _ _ before more after s.invariant.inner (next_part map_is c.args.i s.part) made.inner;
      words = put_more (λ (e : Entry). e.word) _ _ _ before more after s.invariant.words (next_part map_is c.args.i s.part) made.words;
    }

-- the parts are the whole row, since there is no entry behind the last column
whole_row : (c : After-loop-part)
    → row_part (word_at c.args.bitmap.now.entries) c.args.i 0 (64 * c.loop-part.part) ≡ row_part (word_at c.args.bitmap.now.entries) c.args.i 0 c.args.bitmap.now.cols
whole_row c =
    let b = c.args.bitmap.now in
    let inside = c.row_parts-part-end.ensures.inside in
    let all = c.row_parts-part-end.ensures.number in
    all_parts (word_at b.entries) c.args.i b.cols (64 * c.loop-part.part) (omega (arith, c.loop-part-test.false))
    (λ k past. nothing_outside b.rows b.cols b.entries c.args.i k inside (grind (arith, nat_tests)))

-- a fact that holds in any case
in_any_case : {T E : Type 0} (r : Result T E) (P : Type 0) → P → OnOk r P
in_any_case (Ok x) P is = is
in_any_case (Err e) P is = tt

pub returns-clause-inner : goal.returns-clause-inner
returns-clause-inner c = in_any_case c.close.result _ (c.close.ensures.inner ∙ c.loop-part.invariant.inner ∙ rw (whole_row (search rules)) refl)

pub returns-clause-words : goal.returns-clause-words
returns-clause-words c = in_any_case c.close.result _ (c.close.ensures.words ∙ c.loop-part.invariant.words ∙ rw (whole_row (search rules)) refl)
