-- The word at the front is the first one.
use Rattle.mmio.proofs.FrontLaws.{leads}
use Rattle.mmio.proofs.digits.first_number.Goals as goal

pub returns : goal.returns
returns c = leads c.args.line.now c.without_blanks.result.now c.number_in_front.result c.without_blanks.ensures.words c.without_blanks.ensures.begins c.number_in_front.ensures.found c.number_in_front.ensures.value c.number_in_front.ensures.rest
