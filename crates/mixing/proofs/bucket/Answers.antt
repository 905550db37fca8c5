-- `bucket` is the remainder that the definition names. Assumes nothing.
use Rattle.std.proofs.Common.{sym, ◌∙◌}
use Rattle.mixrule.specs.Mixing.Opened.{bucket_is}
use Rattle.mixing.proofs.bucket.Goals as goal

pub returns : goal.returns
returns c = c.remainder.ensures ∙ sym (bucket_is c.args.h c.args.count)
