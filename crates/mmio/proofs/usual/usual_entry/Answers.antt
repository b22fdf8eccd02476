-- Two numbers, and a value where the file has values.
use Rattle.std.proofs.Common.{◌≡◌, arith, rules, true}
use Rattle.std.proofs.lemmas.Bool.Decides.{nat_tests}
use Rattle.model.specs.MatrixMarket.{is_position}
use Rattle.mmio.proofs.UsualLaws.{says_position, says_value}
use Rattle.mmio.proofs.usual.usual_entry.Goals as goal
use Rattle.mmio.proofs.usual.usual_entry.Goals.{in-Pattern+in_ok-col-in-Pattern, in-Integer+in_ok-col-in-Integer+in_ok-magnitude-in-Integer+in_ok-residue-in-Integer}

pub returns-clause-entry : goal.returns-clause-entry
returns-clause-entry c =
    let row = c.in_ok-row.ensures.number in
    let all : is_position c.args.heading c.in_ok-row.row c.match-heading.col.0 ≡ true = grind (arith, nat_tests) in
    elim c.match-heading.branch [
      | in-Pattern+in_ok-col-in-Pattern w ↦
          let col = w.in_ok-col-in-Pattern.ensures.number in
          let inside : is_position c.args.heading c.in_ok-row.row w.in_ok-col-in-Pattern.col ≡ true = rw w.col-is at all in
          rw w.col-is (says_position c.args.domain c.args.heading _ _ _ _ _ (search rules) (search rules) w.in-Pattern.is row col inside)
      | in-Integer+in_ok-col-in-Integer+in_ok-magnitude-in-Integer+in_ok-residue-in-Integer w ↦
          let col = w.in_ok-col-in-Integer.ensures.number in
          let inside : is_position c.args.heading c.in_ok-row.row w.in_ok-col-in-Integer.col ≡ true = rw w.col-is at all in
          rw (w.col-is, w.in_domain.ensures) (says_value c.args.domain c.args.heading _ _ _ _ _ _ _ _ _ _ (search rules) (search rules) w.in-Integer.is row col
          w.without_sign-is_negative.ensures.sign w.without_sign-is_negative.ensures.rest w.in_ok-magnitude-in-Integer.ensures.number (search rules) inside)
    ]
