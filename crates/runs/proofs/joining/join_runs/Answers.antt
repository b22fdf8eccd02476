use Rattle.std.proofs.Common.{rules, ◌≡◌, ◌+◌, ◌-◌, ◌<◌, ◌++◌, ◌∷◌, [], List, length, drop, get_or, refl, sym, ◌∙◌, ap, arith}
use Rattle.std.specs.List.{AllPairs}
use Rattle.std.specs.Vec.{vec_len, vec_capacity}
use Rattle.std.proofs.Math.ListN.{drop_of_length-le}
use Rattle.std.proofs.lemmas.List.{drop_more}
use Rattle.std.specs.Option.{option_map}
use Rattle.algebra.specs.OperatorNames.{op_named}
use Rattle.model.specs.declared.entry.Entry.{Entry}
use Rattle.model.specs.Entries.{IsNotBehind, entry_at}
use Rattle.store.proofs.FlatLaws.{flat_none}
use Rattle.runs.specs.Runs.{runs_of}
use Rattle.runs.proofs.JoinLaws.{AreOpen, open_first, open_same, open_more, open_next, open_end, no_runs}
use Rattle.runs.proofs.joining.join_runs.Goals as goal
use Rattle.runs.proofs.joining.join_runs.Goals.{then-shares_position, else-shares_position, then-entry-last+in_ok-push, else-entry-last}

no_entries : (es : List Entry) → length es ≡ 0 → es ≡ []
no_entries [] none = refl
no_entries (e ∷ es) none = absurd (omega arith)

pub returns-in_default-clause-flat : goal.returns-in_default-clause-flat
returns-in_default-clause-flat c = rw (c.new.ensures.ends, c.new.ensures.inner, c.new.ensures.words) flat_none

pub returns-in_default-clause-entries : goal.returns-in_default-clause-entries
returns-in_default-clause-entries c =
    let none : c.args.entries.now ≡ [] = no_entries c.args.entries.now c.in_default.ensures.cases in
    rw (c.new.ensures.ends, c.new.ensures.inner, none) no_runs

pub loop-entry-init : goal.loop-entry-init
loop-entry-init c =
    let first = c.in-Some.first.now in
    let rest = c.in-Some.rest.now in
    let whole : c.args.entries.now ≡ first ∷ rest = search rules in
    let long = ap length whole in
    let order : AllPairs IsNotBehind (first ∷ rest) = rw whole at c.requires in
    record {
      opened = rw (c.new-ends.ensures.items, c.in_ok-inner.ensures.items, c.in_ok-words.ensures.items, whole) (open_first (option_map op_named c.args.joins) first rest order);
      inner_room = search rules;
      words_room = search rules;
    }

pub loop-entry-preserved : goal.loop-entry-preserved
loop-entry-preserved c =
    let here = c.loop-entry.invariant in
    let inner = c.loop-entry.inner.items in
    let words = c.loop-entry.words.items in
    let ends = c.loop-entry.ends.items in
    let last = c.loop-entry.last in
    let joins = option_map op_named c.args.joins in
    let k = c.loop-entry.entry-index in
    let e = get_or c.in-Some.rest.now k (entry_at 0 0 0) in
    let left = drop (k + 1) c.in-Some.rest.now in
    let all = runs_of joins c.args.entries.now in
    let opened : AreOpen joins ends inner words last (e ∷ left) all = rw (drop_more c.in-Some.rest.now k (entry_at 0 0 0) c.loop-entry-test.true) at here.opened in
    elim c.if-shares_position.branch [
      | then-shares_position w ↦ rw (w.ends-is, w.inner-is, w.words-is, w.last-is, w.join.ensures) (record {
        opened = open_same joins ends inner words last e left all opened (sym c.shares_position.ensures ∙ w.if-shares_position.true);
        inner_room = let room = here.inner_room in omega arith;
        words_room = let room = here.words_room in omega arith;
      })
      | else-shares_position w ↦
          let other = sym c.shares_position.ensures ∙ w.if-shares_position.false in
          let one = w.push_reserved.ensures in
          let two = w.push_reserved-else-shares_position.ensures in
          let inner_room : vec_len w.push_reserved.new.self + (length c.in-Some.rest.now - (k + 1)) < vec_capacity w.push_reserved.new.self = (let room = here.inner_room in let long = one.len in let same = one.capacity in omega arith) in
          let words_room : vec_len w.push_reserved-else-shares_position.new.self + (length c.in-Some.rest.now - (k + 1)) < vec_capacity w.push_reserved-else-shares_position.new.self = (let room = here.words_room in let long = two.len in let same = two.capacity in omega arith) in
          let long : vec_len w.push_reserved.new.self ≡ length (inner ++ last.col ∷ []) = (let ok = w.push_reserved.new.self.ok in let is = ap length one.items in omega arith) in
          elim w.if-entry-last.branch [
            | then-entry-last+in_ok-push v ↦ rw (w.ends-is, w.inner-is, w.words-is, w.last-is, v.ends-is) (record {
              opened = rw (v.in_ok-push.ensures.items, v.end_of.ensures, v.len.ensures, long, one.items, two.items) (open_next joins ends inner words last e left all opened other v.if-entry-last.true);
              inner_room = inner_room;
              words_room = words_room;
            })
            | else-entry-last v ↦ rw (w.ends-is, w.inner-is, w.words-is, w.last-is, v.ends-is) (record {
              opened = rw (one.items, two.items) (open_more joins ends inner words last e left all opened other v.if-entry-last.false);
              inner_room = inner_room;
              words_room = words_room;
            })
          ]
    ]

pub returns-clause-flat : goal.returns-clause-flat
returns-clause-flat c =
    let joins = option_map op_named c.args.joins in
    let s = c.loop-entry in
    let past = c.loop-entry-test.false in
    let done : drop s.entry-index c.in-Some.rest.now ≡ [] = drop_of_length-le c.in-Some.rest.now (omega arith) in
    let all = runs_of joins c.args.entries.now in
    let opened : AreOpen joins s.ends.items s.inner.items s.words.items s.last [] all = rw done at s.invariant.opened in
    let long : vec_len c.push_reserved-2.new.self ≡ length (s.inner.items ++ s.last.col ∷ []) = (let ok = c.push_reserved-2.new.self.ok in let is = ap length c.push_reserved-2.ensures.items in omega arith) in
    rw (c.in_ok-push-2.ensures.items, c.end_of-2.ensures, c.len-2.ensures, long, c.push_reserved-2.ensures.items, c.push_reserved-3.ensures.items) (open_end joins s.ends.items s.inner.items s.words.items s.last all opened).0

pub returns-clause-entries : goal.returns-clause-entries
returns-clause-entries c =
    let joins = option_map op_named c.args.joins in
    let s = c.loop-entry in
    let past = c.loop-entry-test.false in
    let done : drop s.entry-index c.in-Some.rest.now ≡ [] = drop_of_length-le c.in-Some.rest.now (omega arith) in
    let all = runs_of joins c.args.entries.now in
    let opened : AreOpen joins s.ends.items s.inner.items s.words.items s.last [] all = rw done at s.invariant.opened in
    let long : vec_len c.push_reserved-2.new.self ≡ length (s.inner.items ++ s.last.col ∷ []) = (let ok = c.push_reserved-2.new.self.ok in let is = ap length c.push_reserved-2.ensures.items in omega arith) in
    rw (c.in_ok-push-2.ensures.items, c.end_of-2.ensures, c.len-2.ensures, long, c.push_reserved-2.ensures.items, c.push_reserved-3.ensures.items) (open_end joins s.ends.items s.inner.items s.words.items s.last all opened).1
