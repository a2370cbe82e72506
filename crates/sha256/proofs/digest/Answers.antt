-- `sha256::digest` meets its contract: the bytes of the last hash value. Assumes nothing.
use Rattle.std.proofs.Common.{ap, ◌∙◌}
use Rattle.sha256.specs.declared.Hashed.{Hashed}
use Rattle.sha_block.specs.Hash.{digest_bytes, sha256}
use Rattle.sha256.proofs.digest.Goals as goal

pub returns : goal.returns
unfolding sha256
returns c = c.to_bytes.ensures ∙ ap (λ (x : Hashed). digest_bytes x.state) c.hash.ensures
