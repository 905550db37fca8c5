-- The values that document 01's example takes, keys A, B and C: seed, hashes, positions and fingerprints, as mixrule computes them; and that
-- two keys have equal hashes under each of the eight seeds.
pub use Rattle.mixrule.specs.Mixing.Example.{Hashes, hashes, Positions, positions, Fingerprints, fingerprints, equal_pair}
