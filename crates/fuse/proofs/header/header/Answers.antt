-- `fuse::header::header` meets its contract.
use Rattle.std.proofs.Common.{replicate, ◌∙◌}
use Rattle.words.proofs.PartLaws.{splice_whole}
use Rattle.fuse.proofs.HeaderLaws.{header_length}
use Rattle.fuse.specs.Layout.{fuse_header}
use Rattle.fuse.proofs.header.header.Goals as goal

pub returns : goal.returns
returns c = let s = c.args.s in
    c.put_header.ensures ∙ splice_whole (replicate 48 0) (fuse_header s) (header_length s)
