use Rattle.std.proofs.Common.{◌∙◌, ◌&&◌, ◌||◌, List, Option, ap, arith, eqb, length, not, refl, subst, sym}
use Rattle.std.proofs.Math.Logic.{∥∥₁_elim}
use Rattle.board.specs.Boards.{view_of}
use Rattle.board.specs.Cuts.{AreCuts}
use Rattle.stages.specs.Numbers.{numbers}
use Rattle.board.specs.declared.cut.Cut.{Cut}
use Rattle.board.proofs.CutLaws.{open_within}
use Rattle.board.proofs.CutProps.{cuts-prop}
use Rattle.board.proofs.OutCuts.{cuts_next, next_for, next_number, next_out, parted_next}
use Rattle.board.proofs.PartedLaws.{opens}
use Rattle.board.proofs.board.Board.take_next.Goals as goal

pub invariant_of-self : goal.invariant_of-self
invariant_of-self g c =
    let v = view_of c.args.self.now in
    let same = c.in_default.ensures.refused in
    let are = ∥∥₁_elim c.args.self.now.cut_are (cuts-prop _ _ _) (λ are. are) in
    record {
      cut_are = ∣ subst (λ (l : List (Option Cut)). AreCuts v.tasks v.progress l) (sym same) are ∣₁;
      parted_are = c.args.self.now.parted_are ∙ ap (λ (l : List (Option Cut)). numbers (opens l) (length v.tasks)) (sym same);
    }

pub invariant_of-self-2 : goal.invariant_of-self-2
invariant_of-self-2 g c =
    let v = view_of c.args.self.now in
    let cuts = c.args.self.now.cuts.items in
    let after = c.next_of.new.cuts.items in
    let are = ∥∥₁_elim c.args.self.now.cut_are (cuts-prop _ _ _) (λ are. are) in
    let within = open_within cuts c.args.number c.requires in
    record {
      cut_are = ∣ cuts_next v.tasks v.progress cuts after c.args.number are c.requires c.in-Ok.ensures.task c.in-Ok.ensures.others (let n = are.sized in omega (arith, n, c.in-Ok.ensures.sized)) ∣₁;
      parted_are = parted_next v.tasks v.progress cuts after c.args.number are c.requires c.in-Ok.ensures.task c.in-Ok.ensures.others c.withdraw_if_taken.new.parted.items (length v.tasks)
          (c.withdraw_if_taken.ensures (opens cuts) (length v.tasks) c.args.self.now.parted_are (let n = are.sized in omega (arith, n, within))
          ∙ ap (λ (l : List (Option Cut)). numbers (λ k. opens cuts k && (opens l c.args.number || not (eqb k c.args.number))) (length v.tasks)) c.deref.ensures.value);
    }

pub returns-clause-number : goal.returns-clause-number
returns-clause-number g c =
    let v = view_of c.args.self.now in
    let cuts = c.args.self.now.cuts.items in
    let are = ∥∥₁_elim c.args.self.now.cut_are (cuts-prop _ _ _) (λ are. are) in
    next_number v.tasks v.progress cuts c.next_of.new.cuts.items c.args.number are c.requires c.in-Ok.ensures.task c.in-Ok.ensures.others c.in-Ok.piece c.in-Ok.ensures.piece

pub returns-clause-taken : goal.returns-clause-taken
returns-clause-taken g c args =
    let v = view_of c.args.self.now in
    let cuts = c.args.self.now.cuts.items in
    let are = ∥∥₁_elim c.args.self.now.cut_are (cuts-prop _ _ _) (λ are. are) in
    next_out v.tasks v.progress cuts c.next_of.new.cuts.items c.args.number are c.requires c.in-Ok.ensures.task c.in-Ok.ensures.others v v args c.in-Ok.piece refl c.in-Ok.ensures.piece

pub returns-clause-piece : goal.returns-clause-piece
returns-clause-piece g c =
    let v = view_of c.args.self.now in
    let cuts = c.args.self.now.cuts.items in
    let are = ∥∥₁_elim c.args.self.now.cut_are (cuts-prop _ _ _) (λ are. are) in
    next_for v.tasks v.progress cuts c.next_of.new.cuts.items c.args.number are c.requires c.in-Ok.ensures.task c.in-Ok.ensures.others c.in-Ok.piece c.in-Ok.ensures.piece
