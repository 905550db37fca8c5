-- `fuse::header::put_header` meets its contract.
use Rattle.std.proofs.Common.{ℕ, List, ap, ◌∙◌}
use Rattle.words.specs.Field.{bytes_of, splice}
use Rattle.fuse.proofs.HeaderLaws.{fuse_header_written}
use Rattle.fuse.proofs.header.put_header.Goals as goal

pub returns : goal.returns
returns c = let a = c.args in
    let s = a.s in
    let n : ℕ = c.cells-cells.result in
    let put : ℕ → List ℕ → List ℕ → List ℕ = λ at q t. splice t at q in
    c.put_u32-4.ensures ∙ ap (put 44 (bytes_of 4 n)) (
    c.put_u32-3.ensures ∙ ap (put 40 (bytes_of 4 n)) (
    c.put_u32-2.ensures ∙ ap (put 36 (bytes_of 4 s.count)) (
    c.put_u32.ensures ∙ ap (put 32 (bytes_of 4 s.segment)) (
    c.put_u64-4.ensures ∙ ap (put 24 (bytes_of 8 s.seed)) (
    c.put_u64-3.ensures ∙ ap (put 16 (bytes_of 8 s.keys)) (
    c.put_u64-2.ensures ∙ ap (put 8 (bytes_of 8 0x0000_0030_0801_0201)) c.put_u64.ensures))))))
    ∙ fuse_header_written s n a.out.now c.cells-cells.ensures c.requires.0
