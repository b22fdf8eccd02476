-- Where there is no memory for the lines, the call changed nothing but that values came to be there.
use Rattle.std.proofs.Common.{◌≡◌, Err, inr, refl, rules}
use Rattle.model.specs.declared.status.Status.TheVariants as status
use Rattle.script.proofs.environment.Environment.perform_known.Goals as goal

pub returns-in_err-write_reply : goal.returns-in_err-write_reply
returns-in_err-write_reply g c =
    let refused : c.from_residual-in_err-write_reply.result ≡ Err status.OutOfMemory = search rules in
    rw refused (record {
      ends = inr (inr (refl, c.in_ok-reply.ensures.reads c.in_err-write_reply.ensures.err));
      lines = tt;
      made = c.in_ok-reply.ensures.made;
    })
