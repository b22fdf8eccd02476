use Rattle.std.proofs.Common.{length, refl}
use Rattle.std.proofs.lemmas.Option.{slice_get_read}
use Rattle.stages.proofs.WakeLaws.{grows_put, has_put}
use Rattle.stages.proofs.waiting.add.Goals as goal

pub returns-clause-grows : goal.returns-clause-grows
returns-clause-grows c =
    grows_put (λ r. r.items) c.args.readers.now.items c.args.input c.args.number c.index_mut-list.result.now c.push.new.self
    (slice_get_read c.args.readers.now.items (length c.args.readers.now.items) c.args.input c.index_mut-list.result.now refl c.requires c.index_mut-list.ensures.value)
    c.in_ok-push.ensures.ok

pub returns-clause-added : goal.returns-clause-added
returns-clause-added c =
    has_put (λ r. r.items) c.args.readers.now.items c.args.input c.args.number c.index_mut-list.result.now c.push.new.self
    (slice_get_read c.args.readers.now.items (length c.args.readers.now.items) c.args.input c.index_mut-list.result.now refl c.requires c.index_mut-list.ensures.value)
    c.in_ok-push.ensures.ok
