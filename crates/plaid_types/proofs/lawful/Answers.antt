-- `plaid_types::lawful` meets its contract, by the test's two ways. Assumes nothing.
use Rattle.plaid_types.specs.KeyLaws.{lawful-is, lawful-else}
use Rattle.plaid_types.proofs.lawful.Goals as goal

pub returns-then-is_key_length : goal.returns-then-is_key_length
returns-then-is_key_length c = lawful-is _ _ c.is_key_length.ensures c.if-is_key_length.true

pub returns : goal.returns
returns c = lawful-else _ _ c.is_key_length.ensures c.if-is_key_length.false
