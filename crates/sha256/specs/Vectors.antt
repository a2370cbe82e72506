-- The worked example of FIPS 180-4's companion "SHA256.pdf": the one-block message "abc". Assumes nothing.
use Rattle.std.specs.Prelude.{◌≡◌, refl, [], ◌∷◌}
use Rattle.sha_words.specs.Functions.{ch, maj, upper_sigma0, upper_sigma1, sigma0, sigma1}
use Rattle.sha_block.specs.Constants.{constants}
use Rattle.sha_padding.specs.Padding.{pad}
use Rattle.sha_padding.specs.Parsing.{block_at, block_words}
use Rattle.sha_block.specs.Initial.{initial_hash}
use Rattle.sha_block.specs.Hash.{schedule, turn, turns, compressed, state_after, digest_bytes, sha256}

pub abc : sha256 (0x61 ∷ 0x62 ∷ 0x63 ∷ [])
    ≡ 0xba ∷ 0x78 ∷ 0x16 ∷ 0xbf ∷ 0x8f ∷ 0x01 ∷ 0xcf ∷ 0xea ∷ 0x41 ∷ 0x41 ∷ 0x40 ∷ 0xde ∷ 0x5d ∷ 0xae ∷ 0x22 ∷ 0x23 ∷
    0xb0 ∷ 0x03 ∷ 0x61 ∷ 0xa3 ∷ 0x96 ∷ 0x17 ∷ 0x7a ∷ 0x9c ∷ 0xb4 ∷ 0x10 ∷ 0xff ∷ 0x61 ∷ 0xf2 ∷ 0x00 ∷ 0x15 ∷ 0xad ∷ []
unfolding sha256 digest_bytes state_after compressed turns turn schedule block_words block_at pad initial_hash constants ch maj upper_sigma0 upper_sigma1 sigma0 sigma1
abc = refl
