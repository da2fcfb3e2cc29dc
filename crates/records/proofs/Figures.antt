-- The first record of the paper's worked input: announce 10.16.0.0/12 hop 5, serial 0. Assumes nothing.
use Rattle.std.proofs.Common.{◌≡◌, [], ◌∷◌, refl}
use Rattle.records.specs.BigEndian.{join4}
use Rattle.records.specs.Record.{announce, encoded}

pub first_record : encoded (record { kind = announce; serial = 0; address = join4 10 16 0 0; length = 12; hop = 5 }) ≡ 0 ∷ 13 ∷ 1 ∷ 1 ∷ 0 ∷ 0 ∷ 0 ∷ 0 ∷ 10 ∷ 16 ∷ 0 ∷ 0 ∷ 12 ∷ 0 ∷ 5 ∷ []
first_record = refl
