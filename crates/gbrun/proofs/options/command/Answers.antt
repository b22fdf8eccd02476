use Rattle.std.proofs.Common.{ap, ap₂, ◌≡◌, ◌∙◌}
use Rattle.std.proofs.lemmas.Result.{IfOk-weaker}
use Rattle.clap.specs.Simple.{app_of_fields}
use Rattle.clap.specs.Words.{app_of, new_app, with_rule}
use Rattle.std.specs.Prelude.{codes}
use Rattle.gbrun.specs.CommandLine.{command_line, with_version, without_program_name}
use Rattle.gbrun.proofs.options.command.Goals as goal

pub returns : goal.returns
unfolding command_line
returns c =
    let versioned : app_of c.version.result ≡ with_version (new_app (codes "gbrun")) = ap app_of_fields c.version.ensures ∙ ap with_version c.new.ensures.app in
    let about_is : app_of c.about.result ≡ with_version (new_app (codes "gbrun")) = ap app_of_fields c.about.ensures ∙ versioned in
    let named : app_of c.no_binary_name.result ≡ without_program_name (with_version (new_app (codes "gbrun"))) =
    ap app_of_fields c.no_binary_name.ensures ∙ ap without_program_name about_is in
    let with_workers = c.in_ok-arg.ensures.shape c.workers.ensures.local ∙ ap₂ with_rule named c.workers.ensures.rule in
    let with_rows = c.in_ok-arg-2.ensures.shape c.rows.ensures.local ∙ ap₂ with_rule with_workers c.rows.ensures.rule in
    let with_order = c.in_ok-arg-3.ensures.shape c.order.ensures.local ∙ ap₂ with_rule with_rows c.order.ensures.rule in
    IfOk-weaker c.arg-4.result _ _ (λ command adds. adds.shape c.script.ensures.local ∙ ap₂ with_rule with_order c.script.ensures.rule) c.arg-4.ensures
