-- The lines that were answered are all of the script.
use Rattle.script.proofs.RunLaws.{headline-where_ok}
use Rattle.script.proofs.running.run_by.Goals as goal

pub returns-clause-headline : goal.returns-clause-headline
returns-clause-headline g c =
    headline-where_ok c.answer_lines.result (g.S.Sources.held c.args.sources.now) c.args.script.now c.args.out.now.items c.answer_lines.new.out.items c.answer_lines.ensures.ok
