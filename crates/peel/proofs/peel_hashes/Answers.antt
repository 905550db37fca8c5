-- The hashes are loaded, the cells of degree 1 queued, and all steps taken. Assumes nothing.
use Rattle.std.proofs.Common.{◌≡◌, ℕ, ◌+◌, ◌≤◌, List, [], length, arith, rules}
use lib.ListN.{length-map}
use Rattle.fuse.specs.Asking.{graph_hash}
use Rattle.peel.specs.Peel.{begun, mixed}
use Rattle.laws.specs.Count.{rising}
use Rattle.peel.specs.declared.graph.Graph.{Graph}
use Rattle.peel.specs.Inner.Table.{cells_of, StandsFor, Tables, Queued, queued_by}
use Rattle.peel.proofs.PlaceLaws.{whole_placed}
use Rattle.peel.proofs.TableLaws.{tables_none, cleared}
use Rattle.peel.proofs.StepLaws.{ready_start}
use Rattle.peel.proofs.peel_hashes.Goals as goal

-- the workspace where the peeling begins
ready : (g : Graph) (hashes wide narrow narrow' : List ℕ) (top : ℕ)
    → Tables (cells_of g) g.cells (mixed g.seed hashes) narrow wide
    → Queued g.cells (queued_by narrow (rising 0 g.cells) []) top narrow narrow' → length narrow' ≡ length narrow
    → g.cells + length hashes ≤ length wide → g.cells + g.cells + length hashes ≤ length narrow
    → StandsFor (cells_of g) g.cells (mixed g.seed hashes)
    (begun (cells_of g) g.cells (mixed g.seed hashes)) wide narrow' top 0
ready g hashes wide narrow narrow' top t q l a b =
    let m = length-map hashes (graph_hash g.seed) in
    ready_start _ g.cells (mixed g.seed hashes) _ narrow _ _ (whole_placed g hashes) t q l (omega arith) (omega arith)

pub load-requires : goal.load-requires
load-requires c = let s = c in (
  s.requires.0,
  tables_none _ _ _ _ (search rules) (search rules) (cleared _ s.args.narrow.now _ (c.fill-2.ensures.after (λ y e. e)) (search rules))
      (cleared _ s.args.wide.now _ (c.fill.ensures.after (λ y e. e)) (search rules)),
)

pub peel_all-requires : goal.peel_all-requires
peel_all-requires c = let s = c in
    let w : length c.load.new.wide ≡ length s.args.wide.now = search rules in
    let n : length c.load.new.narrow ≡ length s.args.narrow.now = search rules in
    let R = ready s.args.g s.args.hashes.now _ _ _ _ c.load.ensures c.queue_ones-top.ensures (search rules) (omega arith)
    (omega arith) in
    (mixed s.args.g.seed s.args.hashes.now, R)

pub returns : goal.returns
returns c = let s = c in
    let a = s.args in
    let w : length c.load.new.wide ≡ length s.args.wide.now = search rules in
    let n : length c.load.new.narrow ≡ length s.args.narrow.now = search rules in
    let R = ready s.args.g s.args.hashes.now _ _ _ _ c.load.ensures c.queue_ones-top.ensures (search rules) (omega arith)
    (omega arith) in
    c.peel_all.ensures (mixed a.g.seed a.hashes.now) R
