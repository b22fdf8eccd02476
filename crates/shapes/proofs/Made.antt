-- Rows of a map, put one behind the other into lists.
use Rattle.std.proofs.Common.{◌≡◌, ◌≢◌, ℕ, ◌+◌, ◌<◌, ◌≤◌, [], ◌++◌, length, None, sym, ◌∙◌, ap, subst, inl, inr, arith}
use Rattle.std.proofs.lemmas.Bool.{cases_eq, cases_lt}
use Rattle.std.proofs.lemmas.List.Elements.{All-append, All-nil, All-weaker}
use Rattle.model.specs.declared.entry.Entry.{Entry}
use Rattle.model.specs.Entries.{word_at}
use Rattle.model.specs.Object.{Content}
use Rattle.store.specs.declared.lists.FiberEnd.{FiberEnd}
use Rattle.store.specs.declared.lists.FiberLists.{FiberLists}
use Rattle.store.specs.Fibers.{entries_along, entries_in}
use Rattle.store.specs.Stored.{AreIn}
use Rattle.store.proofs.CloseLaws.{close_fiber, closed}
use Rattle.store.proofs.Contents.{no_entries}
use Rattle.store.proofs.FlatLaws.{all_cols, all_rows, flat_none}
use Rattle.store.proofs.PartLaws.{none_there, word_before, word_behind}
use Rattle.shapes.specs.Rows.{HasRowOf, IsMade}

pub made_none : (c : Content) (first cols : ℕ) (lists : FiberLists) → lists.ends.items ≡ [] → lists.inner.items ≡ []
    → lists.words.items ≡ [] → IsMade c first first cols lists
made_none c first cols lists ends inner words =
    let none = no_entries 0 lists.ends.items lists.inner.items lists.words.items ends in
    record {
      low = omega arith;
      flat = rw (ends, inner, words) flat_none;
      outers = rw ends (All-nil (λ (r : FiberEnd). r.outer < first));
      inside = subst (AreIn first first cols) (sym none) (All-nil (λ (e : Entry). ((first ≤ e.row) × (e.row < first)) × (e.col < cols)));
      words = λ i j low high. absurd (omega arith);
    }

-- rows without a word in between change nothing
pub made_skip : (c : Content) (first next row cols : ℕ) (lists : FiberLists) → IsMade c first next cols lists
    → next ≤ row → ((i j : ℕ) → next ≤ i → i < row → c i j ≡ None) → IsMade c first row cols lists
made_skip c first next row cols lists here up none =
    let start = here.low in
    record {
      low = omega arith;
      flat = here.flat;
      outers = All-weaker (λ (r : FiberEnd). r.outer < next) (λ (r : FiberEnd). r.outer < row) (λ r p. omega arith) lists.ends.items here.outers;
      inside = All-weaker (λ (e : Entry). ((first ≤ e.row) × (e.row < next)) × (e.col < cols)) (λ (e : Entry). ((first ≤ e.row) × (e.row < row)) × (e.col < cols)) (λ e p. let less = p.0.1 in ((p.0.0, omega arith), p.1)) (entries_in lists) here.inside;
      words = λ i j low high. elim (cases_lt i next) [
        | inl before ↦ here.words i j low before
        | inr past ↦
            none_there i j (entries_in lists) (All-weaker (λ (e : Entry). ((first ≤ e.row) × (e.row < next)) × (e.col < cols)) (λ (e : Entry). i ≢ e.row) (λ e p q. let less = p.0.1 in omega arith) (entries_in lists) here.inside)
            ∙ sym (none i j past high)
      ];
    }

-- one row more
pub made_more : (c : Content) (first index cols : ℕ) (old new : FiberLists) → IsMade c first index cols old
    → HasRowOf c index cols old new → IsMade c first (index + 1) cols new
made_more c first index cols old new here made =
    let start = here.low in
    let row = entries_along index made.cs made.ws in
    let before = entries_in old in
    let fiber = close_fiber old.ends.items old.inner.items old.words.items index made.cs made.ws here.flat here.outers made.row.lengths made.row.rising in
    let ends : new.ends.items ≡ closed old.ends.items index (length (old.inner.items ++ made.cs)) = rw made.put.inner at made.put.ends in
    let all : entries_in new ≡ before ++ row = rw (ends, made.put.inner, made.put.words) fiber.entries in
    let here_rows = all_rows index made.cs made.ws in
    record {
      low = omega arith;
      flat = rw (ends, made.put.inner, made.put.words) fiber.flat;
      outers = rw ends (fiber.outers_are (λ o. o < index + 1) (All-weaker (λ (r : FiberEnd). r.outer < index) (λ (r : FiberEnd). r.outer < index + 1) (λ r p. omega arith) old.ends.items here.outers) (omega arith));
      inside = subst (AreIn first (index + 1) cols) (sym all) (All-append (λ (e : Entry). ((first ≤ e.row) × (e.row < index + 1)) × (e.col < cols)) before row
          (All-weaker (λ (e : Entry). ((first ≤ e.row) × (e.row < index)) × (e.col < cols)) (λ (e : Entry). ((first ≤ e.row) × (e.row < index + 1)) × (e.col < cols)) (λ e p. let less = p.0.1 in ((p.0.0, omega arith), p.1)) before here.inside)
          (All-weaker (λ (e : Entry). (e.row ≡ index) × (e.col < cols)) (λ (e : Entry). ((first ≤ e.row) × (e.row < index + 1)) × (e.col < cols)) (λ e p. let is = p.0 in ((omega arith, omega arith), p.1)) row (all_cols (λ col. col < cols) index made.cs made.ws made.row.inside)));
      words = λ i j low high. ap (λ es. word_at es i j) all ∙ elim (cases_eq i index) [
        | inl same ↦
            word_behind i j before row (All-weaker (λ (e : Entry). ((first ≤ e.row) × (e.row < index)) × (e.col < cols)) (λ (e : Entry). i ≢ e.row) (λ e p q. let less = p.0.1 in omega arith) before here.inside)
            ∙ ap (λ i. word_at row i j) same ∙ made.row.words j ∙ ap (λ i. c i j) (sym same)
        | inr other ↦
            word_before i j before row (All-weaker (λ (e : Entry). e.row ≡ index) (λ (e : Entry). i ≢ e.row) (λ e p q. other (q ∙ p)) row here_rows)
            ∙ here.words i j low (omega arith)
      ];
    }
