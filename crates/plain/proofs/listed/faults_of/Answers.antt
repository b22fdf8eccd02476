-- The faults of the announced lines, and that of the number of lines.
use Rattle.std.proofs.Common.{◌++◌, List, cond, map, take, [], ◌∷◌, length, sym, ◌∙◌, ap}
use Rattle.std.specs.Prelude.{nat_lt}
use Rattle.std.specs.List.{filter_map}
use Rattle.model.specs.declared.market.Misread.{Misread}
use Rattle.model.specs.declared.market.Mistake.TheVariants as mistake
use Rattle.model.specs.MatrixMarket.{misread}
use Rattle.plain.specs.declared.lines.PlainLine.{PlainLine}
use Rattle.plain.specs.Files.{fault_in, lines_in}
use Rattle.plain.proofs.FileLaws.{faults_of-announced}
use Rattle.plain.proofs.listed.faults_of.Goals as goal

pub returns : goal.returns
returns c =
    let lines = c.args.lines.now in
    let h = c.args.heading in
    let few : List Misread = cond (nat_lt (length lines) h.entries) (record { left = 0; mistake = mistake.TooFew } ∷ []) [] in
    let wrong : List PlainLine → List Misread = λ lines. filter_map (fault_in c.args.domain h) (lines_in lines) in
    let many : List PlainLine → List Misread = λ lines. map (misread mistake.TooMany) (take 1 (lines_in lines)) in
    c.in_ok-push_too_few.ensures
    ∙ ap (λ faults. faults ++ few) c.in_ok-push_first.ensures
    ∙ ap (λ faults. faults ++ many c.split_at.result.1.now ++ few) c.in_ok-faults.ensures
    ∙ ap (λ front. wrong front ++ many c.split_at.result.1.now ++ few) c.split_at.ensures.front
    ∙ ap (λ back. wrong (take c.min-announced.result lines) ++ many back ++ few) c.split_at.ensures.back
    ∙ sym (faults_of-announced c.args.domain h lines c.min-announced.result c.min-announced.ensures)
