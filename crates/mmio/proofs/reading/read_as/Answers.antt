-- What the lines list behind the heading is the matrix.
use Rattle.std.proofs.Common.{◌∙◌, List, Result, Ok, Err, ap, inl, inr, ◌≡◌, ℕ}
use Rattle.std.proofs.lemmas.Result.{err_from_is_err_and}
use Rattle.model.specs.declared.entry.Entry.{Entry}
use Rattle.model.specs.declared.market.Heading.{Heading}
use Rattle.model.specs.declared.market.Misread.{Misread}
use Rattle.model.specs.declared.market.MmFault.{MmFault}
use Rattle.mmio.specs.Listing.{located, matrix_of}
use Rattle.mmio.proofs.ListingLaws.{matrix_listed-is}
use Rattle.mmio.proofs.reading.read_as.Goals as goal

-- a fault of the entries is one of the matrix
no_matrix : (h : Heading) (file : List ℕ) (entries : Result (List Entry) Misread) (fault : MmFault)
    → located file entries ≡ Err fault → located file (matrix_of h entries) ≡ Err fault
no_matrix h file (Ok listed) fault is = absurd (cc)
no_matrix h file (Err wrong) fault is = cc

pub returns-in_err-listed-clause-err : goal.returns-in_err-listed-clause-err
returns-in_err-listed-clause-err g c =
    let p = err_from_is_err_and c.from_residual-in_err-listed.result c.from_residual-in_err-listed.ensures.1 in
    rw (p.1, p.2) (elim c.in_err-listed.ensures.err [
      | inl none ↦ inl none
      | inr wrong ↦ inr (c.in_ok-heading.ensures ∙ ap (located c.args.bytes.now) (matrix_listed-is _ _ _) ∙ no_matrix c.in_ok-heading.heading _ _ _ wrong)
    ])

pub returns-clause-ok : goal.returns-clause-ok
returns-clause-ok g c =
    c.in_ok-heading.ensures ∙ ap (located c.args.bytes.now) (matrix_listed-is _ _ _ ∙ ap (matrix_of c.in_ok-heading.heading) c.in_ok-listed.ensures.ok)
