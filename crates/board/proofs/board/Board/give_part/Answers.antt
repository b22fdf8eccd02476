use Rattle.std.proofs.Common.{◌≡◌, Some, arith, length, refl, subst}
use Rattle.std.proofs.Math.Logic.{∥∥₁_elim}
use Rattle.std.specs.Prelude.{IfSome, Ok, Err}
use Rattle.std.specs.Option.{option_map}
use Rattle.kernel.specs.Covers.{Covers}
use Rattle.pieces.specs.Parts.{blocks_in}
use Rattle.pieces.specs.declared.part.Part.TheVariants.{Given as WasGiven}
use Rattle.std.specs.Prelude.{slice_set}
use Rattle.board.specs.Boards.{view_of}
use Rattle.board.specs.Cuts.{IfSeveral, after_cut, at_slot, cutting_of, task_at, told_blocks, told_cut}
use Rattle.board.specs.SlotViews.{slots_view}
use Rattle.board.specs.declared.piece.Given.{Given}
use Rattle.board.specs.declared.piece.Given.TheVariants.{Last, More}
use Rattle.board.proofs.CutLaws.{at_within}
use Rattle.board.proofs.CutProps.{cuts-prop}
use Rattle.board.proofs.GiveCuts.{all_part, cut_there, cuts_more, kept_last, left_part, parted_more, runs, told_part}
use Rattle.board.proofs.board.Board.give_part.Goals as goal

pub invariant_of-self : goal.invariant_of-self
invariant_of-self g c =
    let v = view_of c.args.self.now in
    let cuts = c.args.self.now.cuts.items in
    let after = c.give_to.new.cuts.items in
    let k = c.args.number in
    let are = ∥∥₁_elim c.args.self.now.cut_are (cuts-prop _ _ _) (λ are. are) in
    let answer = subst (λ (x : Given). IfSome (at_slot cuts k) (λ d. told_cut (cutting_of d) c.args.piece c.args.block ≡ Ok (told_blocks x))) c.in-Ok-More.field-0-is c.in-Ok-More.ensures.answer in
    let left = subst (λ (x : Given). IfSome (at_slot cuts k) (λ d. option_map cutting_of (at_slot after k) ≡ Some (after_cut (cutting_of d) c.args.piece c.args.block (told_blocks x)))) c.in-Ok-More.field-0-is c.in-Ok-More.ensures.left in
    record {
      cut_are = ∣ cuts_more v.tasks v.progress cuts after k c.args.piece c.args.block are c.requires.cut c.requires.right answer left c.in-Ok-More.ensures.keeps c.in-Ok-More.ensures.others c.in-Ok-More.ensures.sized ∣₁;
      parted_are = parted_more v.tasks v.progress cuts after k c.args.piece c.args.block are c.requires.cut c.requires.right answer left c.in-Ok-More.ensures.keeps c.in-Ok-More.ensures.others c.args.self.now.parted.items (length v.tasks) c.args.self.now.parted_are;
    }

pub join-requires : goal.join-requires
join-requires g c =
    let v = view_of c.args.self.now in
    let cuts = c.args.self.now.cuts.items in
    let after = c.give_to.new.cuts.items in
    let k = c.args.number in
    let are = ∥∥₁_elim c.args.self.now.cut_are (cuts-prop _ _ _) (λ are. are) in
    let answer = subst (λ (x : Given). IfSome (at_slot cuts k) (λ d. told_cut (cutting_of d) c.args.piece c.args.block ≡ Ok (told_blocks x))) c.in-Ok-Last.field-0-is c.in-Ok-Last.ensures.answer in
    let left = subst (λ (x : Given). IfSome (at_slot cuts k) (λ d. option_map cutting_of (at_slot after k) ≡ Some (after_cut (cutting_of d) c.args.piece c.args.block (told_blocks x)))) c.in-Ok-Last.field-0-is c.in-Ok-Last.ensures.left in
    runs v.tasks v.progress cuts after k c.args.piece c.args.block are c.requires.cut c.requires.right (Last c.in-Ok-Last.blocks) answer left c.in-Ok-Last.ensures.others

pub invariant_of-self-in-Ok-Last : goal.invariant_of-self-in-Ok-Last
invariant_of-self-in-Ok-Last g c =
    let v = view_of c.args.self.now in
    let cuts = c.args.self.now.cuts.items in
    let after = c.give_to.new.cuts.items in
    let k = c.args.number in
    let are = ∥∥₁_elim c.args.self.now.cut_are (cuts-prop _ _ _) (λ are. are) in
    let answer = subst (λ (x : Given). IfSome (at_slot cuts k) (λ d. told_cut (cutting_of d) c.args.piece c.args.block ≡ Ok (told_blocks x))) c.in-Ok-Last.field-0-is c.in-Ok-Last.ensures.answer in
    let left = subst (λ (x : Given). IfSome (at_slot cuts k) (λ d. option_map cutting_of (at_slot after k) ≡ Some (after_cut (cutting_of d) c.args.piece c.args.block (told_blocks x)))) c.in-Ok-Last.field-0-is c.in-Ok-Last.ensures.left in
    let (d, at) = cut_there cuts k c.requires.cut in
    let within = at_within cuts k d at in
    let kept = kept_last v.tasks v.progress cuts after k c.args.piece c.args.block are c.requires.cut c.requires.right c.in-Ok-Last.blocks answer left c.in-Ok-Last.ensures.others v (slots_view c.join.new.self) c.args.self.now.parted.items c.withdraw.new.ready.items
    refl refl c.in-Ok-Last.ensures.sized c.join.ensures c.args.self.now.parted_are (let n = are.sized in omega (arith, n, within)) c.withdraw.ensures.numbers in
    record { cut_are = ∣ kept.0 ∣₁; parted_are = kept.1 }

pub returns-in-Ok-More-clause-answer : goal.returns-in-Ok-More-clause-answer
returns-in-Ok-More-clause-answer g c =
    let v = view_of c.args.self.now in
    let cuts = c.args.self.now.cuts.items in
    let after = c.give_to.new.cuts.items in
    let k = c.args.number in
    let are = ∥∥₁_elim c.args.self.now.cut_are (cuts-prop _ _ _) (λ are. are) in
    let answer = subst (λ (x : Given). IfSome (at_slot cuts k) (λ d. told_cut (cutting_of d) c.args.piece c.args.block ≡ Ok (told_blocks x))) c.in-Ok-More.field-0-is c.in-Ok-More.ensures.answer in
    let left = subst (λ (x : Given). IfSome (at_slot cuts k) (λ d. option_map cutting_of (at_slot after k) ≡ Some (after_cut (cutting_of d) c.args.piece c.args.block (told_blocks x)))) c.in-Ok-More.field-0-is c.in-Ok-More.ensures.left in
    told_part v.tasks v.progress cuts after k c.args.piece c.args.block are c.requires.cut c.requires.right v (Ok (told_blocks More)) answer

pub returns-in-Ok-More-clause-left : goal.returns-in-Ok-More-clause-left
returns-in-Ok-More-clause-left g c =
    let v = view_of c.args.self.now in
    let cuts = c.args.self.now.cuts.items in
    let after = c.give_to.new.cuts.items in
    let k = c.args.number in
    let are = ∥∥₁_elim c.args.self.now.cut_are (cuts-prop _ _ _) (λ are. are) in
    let answer = subst (λ (x : Given). IfSome (at_slot cuts k) (λ d. told_cut (cutting_of d) c.args.piece c.args.block ≡ Ok (told_blocks x))) c.in-Ok-More.field-0-is c.in-Ok-More.ensures.answer in
    let left = subst (λ (x : Given). IfSome (at_slot cuts k) (λ d. option_map cutting_of (at_slot after k) ≡ Some (after_cut (cutting_of d) c.args.piece c.args.block (told_blocks x)))) c.in-Ok-More.field-0-is c.in-Ok-More.ensures.left in
    left_part v.tasks v.progress cuts after k c.args.piece c.args.block are c.requires.cut c.requires.right More answer left c.in-Ok-More.ensures.others v v refl

pub returns-in-Ok-Last-clause-answer : goal.returns-in-Ok-Last-clause-answer
returns-in-Ok-Last-clause-answer g c =
    let v = view_of c.args.self.now in
    let cuts = c.args.self.now.cuts.items in
    let after = c.give_to.new.cuts.items in
    let k = c.args.number in
    let are = ∥∥₁_elim c.args.self.now.cut_are (cuts-prop _ _ _) (λ are. are) in
    let answer = subst (λ (x : Given). IfSome (at_slot cuts k) (λ d. told_cut (cutting_of d) c.args.piece c.args.block ≡ Ok (told_blocks x))) c.in-Ok-Last.field-0-is c.in-Ok-Last.ensures.answer in
    let left = subst (λ (x : Given). IfSome (at_slot cuts k) (λ d. option_map cutting_of (at_slot after k) ≡ Some (after_cut (cutting_of d) c.args.piece c.args.block (told_blocks x)))) c.in-Ok-Last.field-0-is c.in-Ok-Last.ensures.left in
    told_part v.tasks v.progress cuts after k c.args.piece c.args.block are c.requires.cut c.requires.right v (Ok (told_blocks (Last c.in-Ok-Last.blocks))) answer

pub returns-in-Ok-Last-clause-left : goal.returns-in-Ok-Last-clause-left
returns-in-Ok-Last-clause-left g c =
    let v = view_of c.args.self.now in
    let cuts = c.args.self.now.cuts.items in
    let after = c.give_to.new.cuts.items in
    let k = c.args.number in
    let are = ∥∥₁_elim c.args.self.now.cut_are (cuts-prop _ _ _) (λ are. are) in
    let answer = subst (λ (x : Given). IfSome (at_slot cuts k) (λ d. told_cut (cutting_of d) c.args.piece c.args.block ≡ Ok (told_blocks x))) c.in-Ok-Last.field-0-is c.in-Ok-Last.ensures.answer in
    let left = subst (λ (x : Given). IfSome (at_slot cuts k) (λ d. option_map cutting_of (at_slot after k) ≡ Some (after_cut (cutting_of d) c.args.piece c.args.block (told_blocks x)))) c.in-Ok-Last.field-0-is c.in-Ok-Last.ensures.left in
    left_part v.tasks v.progress cuts after k c.args.piece c.args.block are c.requires.cut c.requires.right (Last c.in-Ok-Last.blocks) answer left c.in-Ok-Last.ensures.others v (slots_view c.join.new.self) c.join.ensures

pub returns-in-Ok-Last-clause-all : goal.returns-in-Ok-Last-clause-all
returns-in-Ok-Last-clause-all g c =
    let v = view_of c.args.self.now in
    let cuts = c.args.self.now.cuts.items in
    let after = c.give_to.new.cuts.items in
    let k = c.args.number in
    let are = ∥∥₁_elim c.args.self.now.cut_are (cuts-prop _ _ _) (λ are. are) in
    let answer = subst (λ (x : Given). IfSome (at_slot cuts k) (λ d. told_cut (cutting_of d) c.args.piece c.args.block ≡ Ok (told_blocks x))) c.in-Ok-Last.field-0-is c.in-Ok-Last.ensures.answer in
    let left = subst (λ (x : Given). IfSome (at_slot cuts k) (λ d. option_map cutting_of (at_slot after k) ≡ Some (after_cut (cutting_of d) c.args.piece c.args.block (told_blocks x)))) c.in-Ok-Last.field-0-is c.in-Ok-Last.ensures.left in
    all_part v.tasks v.progress cuts after k c.args.piece c.args.block are c.requires.cut c.requires.right (Last c.in-Ok-Last.blocks) answer left c.in-Ok-Last.ensures.others
    (subst (λ (x : Given). IfSome (task_at cuts k) (λ t. IfSeveral x (Covers 0 t.pieces.rows))) c.in-Ok-Last.field-0-is c.in-Ok-Last.ensures.covers)
    (subst (λ (x : Given). IfSome (task_at cuts k) (λ t. IfSeveral x (λ blocks. blocks ≡ blocks_in (slice_set t.pieces.parts c.args.piece (WasGiven c.args.block))))) c.in-Ok-Last.field-0-is c.in-Ok-Last.ensures.among)

pub returns-in-Err-clause-answer : goal.returns-in-Err-clause-answer
returns-in-Err-clause-answer g c =
    let v = view_of c.args.self.now in
    let cuts = c.args.self.now.cuts.items in
    let after = c.give_to.new.cuts.items in
    let k = c.args.number in
    let are = ∥∥₁_elim c.args.self.now.cut_are (cuts-prop _ _ _) (λ are. are) in
    told_part v.tasks v.progress cuts after k c.args.piece c.args.block are c.requires.cut c.requires.right v (Err c.in-Err.why) c.in-Err.ensures.answer
