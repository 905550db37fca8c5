-- `put` writes the header and then the lines. Assumes nothing.
use mathlib.Core.Path.{ap}
use Rattle.layout.specs.declared.Header.{Header}
use Rattle.text.proofs.WrittenLaws.{ends_first, ends_second, wrote_then}
use Rattle.lines.specs.Inner.Limited.{Limited}
use Rattle.lines.proofs.TextLaws.{table_text_lem}
use Rattle.lines.proofs.Table.put.Goals as goal

pub put_header-requires : goal.put_header-requires
put_header-requires c =
    let l = ap (λ (a : Limited). a.limit) c.self.view_is in
    let b = ap (λ (a : Limited). a.body) c.self.view_is in
    let k = ap (λ (h : Header). h.keys) c.read.ensures in
    rw l (ends_first _ (rw (table_text_lem _ _ _ _ _ (rw b at k) c.requires.0) at c.requires.1))

pub put_lines-requires : goal.put_lines-requires
put_lines-requires c =
    let l = ap (λ (a : Limited). a.limit) c.self.view_is in
    let b = ap (λ (a : Limited). a.body) c.self.view_is in
    let k = ap (λ (h : Header). h.keys) c.read.ensures in
    ends_second (rw l at c.put_header.ensures)
    (rw (table_text_lem _ _ _ _ _ (rw b at k) c.requires.0) at c.requires.1)

pub returns : goal.returns
returns c =
    let l = ap (λ (a : Limited). a.limit) c.self.view_is in
    let b = ap (λ (a : Limited). a.body) c.self.view_is in
    let k = ap (λ (h : Header). h.keys) c.read.ensures in
    rw (table_text_lem _ _ _ _ _ (rw b at k) c.requires.0)
    (wrote_then (rw l at c.put_header.ensures) c.put_lines.ensures.wrote)
