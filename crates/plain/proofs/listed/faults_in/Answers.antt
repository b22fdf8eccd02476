-- The chain gives what is wrong with each line.
use Rattle.std.proofs.Common.{rules, tests}
use Rattle.std.proofs.lemmas.Iterator.{YieldsList-from_slice, items_from_collect}
use Rattle.std.proofs.lemmas.Iterator.Consumers.{YieldsList-from_filter_map}
use Rattle.plain.specs.declared.lines.PlainLine.{PlainLine}
use Rattle.plain.specs.Files.{fault_in, line_of}
use Rattle.plain.proofs.FileLaws.{filter_map-map}
use Rattle.plain.proofs.listed.faults_in.Goals as goal

pub returns : goal.returns
returns c =
    let fault = fault_in c.args.domain c.args.heading in
    rw (filter_map-map fault line_of c.args.lines.now)
    (items_from_collect c.collect.result c.collect.ensures.ran
    (YieldsList-from_filter_map _ (λ (line : PlainLine). fault (line_of line)) (YieldsList-from_slice c.args.lines.now cc) c.filter_map.ensures.closure (λ x r q k. search (rules, tests))))
