use Rattle.std.proofs.Common.{◌≡◌, ◌++◌, ◌∷◌, [], ◌∙◌, append_assoc, ap, refl, sym}
use Rattle.std.proofs.lemmas.Grind.{flat_map-append}
use Rattle.std.proofs.lemmas.List.{append-nil}
use Rattle.std.proofs.lemmas.List.Sorted.{IsPermutation-append_comm}
use Rattle.std.specs.Global.{Vec}
use Rattle.model.specs.declared.entry.Entry.{Entry}
use Rattle.store.specs.Fibers.{entries_in}
use Rattle.store.specs.Tuples.{listed}
use Rattle.store.proofs.tuples.Tuples.into_lists.Goals as goal

pub returns : goal.returns
returns c =
    let t = c.self.inside in
    let last = c.list_fibers.new.list in
    let before = t.joined.items in
    let rows = entries_in t.rows in
    let list : last.items ≡ t.list.items ++ rows = c.in_ok-list_fibers.ensures ∙ rw (c.of_lists.ensures, c.deref.ensures.value, c.deref-2.ensures.value, c.deref-3.ensures.value) refl in
    let all : listed c.push.new.self.items ≡ (listed before ++ t.list.items) ++ rows =
    ap listed c.in_ok-push.ensures.items
    ∙ flat_map-append (λ (l : Vec Entry). l.items) before (last ∷ [])
    ∙ ap (λ es. listed before ++ es) (append-nil last.items ∙ list)
    ∙ sym (append_assoc (listed before) t.list.items rows) in
    rw (← c.self.view_is, all) (IsPermutation-append_comm rows (listed before ++ t.list.items))
