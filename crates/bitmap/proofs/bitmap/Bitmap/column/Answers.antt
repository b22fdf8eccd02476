use Rattle.std.proofs.Common.{◌≡◌, ◌∙◌, ◌<◌, ℕ, Result, Ok, Err, IfOk, ap, arith, get_or, length, rules, sym}
use Rattle.model.specs.Entries.{entries_of}
use Rattle.bitmap.specs.Bitmaps.{entries_down, held}
use Rattle.bitmap.proofs.ColumnLaws.{column_is}
use Rattle.bitmap.proofs.FullLaws.{column_listed}
use Rattle.bitmap.proofs.bitmap.Bitmap.column.Goals as goal

-- what follows of a value from three of its facts
all_three : {T E : Type 0} (r : Result T E) (P Q R S : T → Type 0) → ((x : T) → P x → Q x → R x → S x) → IfOk r P
    → IfOk r Q → IfOk r R → IfOk r S
all_three (Ok x) P Q R S then p q r = then x p q r
all_three (Err e) P Q R S then p q r = tt

pub returns-then-self-len-clause-entries : goal.returns-then-self-len-clause-entries
returns-then-self-len-clause-entries c =
    let s = c.self.inside in
    let ws = s.words.items in
    let lent = c.deref.ensures.value in
    let one : s.cols ≡ 1 = rw (← c.self.view_is) at c.requires in
    let all : s.count ≡ length ws = search rules in
    let made = c.full_lists.ensures in
    rw (← c.self.view_is) (all_three c.full_lists.result
    (λ r. length r.0.items ≡ length ws)
    (λ r. (k : ℕ) → k < length ws → get_or r.0.items k 0 ≡ k)
    (λ r. r.1.items ≡ ws)
    (λ r. entries_down r.0.items r.1.items ≡ entries_of s.rows s.cols (held s.cols s.bits.items ws))
    (λ r long rows same. rw same (column_listed s.rows s.cols s.count s.bits.items ws r.0.items c.self.invariant all one long rows))
    (rw lent at made.length) (rw lent at made.rows) (rw lent at made.words))

pub gather-requires-clause-room : goal.gather-requires-clause-room
gather-requires-clause-room c =
    let s = c.self.inside in
    let one : s.cols ≡ 1 = rw (← c.self.view_is) at c.requires in
    let all = ap length (column_is s.rows s.cols s.bits.items s.words.items one c.self.invariant.word_each) in
    let counted = c.self.invariant.counted in
    let none : length c.in_ok-lists.lists.entries ≡ 0 = ap length c.in_ok-lists.ensures.entries in
    let room = c.in_ok-lists.ensures.room in
    rw (c.deref-2.ensures.value, c.deref-3.ensures.value) (omega arith)

pub returns-clause-entries : goal.returns-clause-entries
returns-clause-entries c =
    let s = c.self.inside in
    let one : s.cols ≡ 1 = rw (← c.self.view_is) at c.requires in
    let all = column_is s.rows s.cols s.bits.items s.words.items one c.self.invariant.word_each in
    rw (← c.self.view_is) (c.into_lists.ensures.entries ∙ c.gather.ensures ∙ rw (c.in_ok-lists.ensures.entries, c.deref-2.ensures.value, c.deref-3.ensures.value) (sym all))
