-- What is built, and the bytes in front. Assumes nothing.
use native.Mathlib.Omega.{arith}
use Rattle.filter.proofs.BuildingLaws.{lay_usable, lay_fuse}
use Rattle.filter.proofs.building.lay.Goals as goal

pub put_header-requires : goal.put_header-requires
put_header-requires c = let a = c.args in
    let m = c.make-built in (
      omega (arith, c.requires.out_room),
      (lay_usable a.hashes.now a.out.now m.new.out m.result m.ensures c.in-Fuse.s c.in-Fuse.is
          (omega arith)).small,
    )

pub returns-in-Fuse : goal.returns-in-Fuse
returns-in-Fuse c = let s = c in
    let a = s.args in
    let m = c.make-built in
    lay_fuse a.hashes.now a.out.now m.new.out m.result m.ensures c.in-Fuse.s c.in-Fuse.is (omega arith) s.requires.out_room _
    c.put_header.ensures
