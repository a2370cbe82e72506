-- `reader_accept::fault` meets its contract, test by test (`Cases`). Assumes nothing.
use mathlib.Core.Path.{sym, ◌∙◌}
use Rattle.reader_accept.proofs.Cases.{length-other, hash-other, length-unknown, work-short, no-fault}
use Rattle.reader_accept.proofs.fault.Goals as goal

pub returns-then-not-is_key_length : goal.returns-then-not-is_key_length
returns-then-not-is_key_length c =
    let a = c.args in
    length-other a.l a.keys_hash a.n a.room (sym c.is_key_length.ensures ∙ c.if-not-is_key_length.true)

pub returns-then-keys_hash-l : goal.returns-then-keys_hash-l
returns-then-keys_hash-l c =
    let a = c.args in
    hash-other a.l a.keys_hash a.n a.room (sym c.is_key_length.ensures ∙ c.if-not-is_key_length.false) c.if-keys_hash-l.true

pub returns-then-not-known_length : goal.returns-then-not-known_length
returns-then-not-known_length c =
    let a = c.args in
    length-unknown a.l a.keys_hash a.n a.room (sym c.is_key_length.ensures ∙ c.if-not-is_key_length.false) c.if-keys_hash-l.false (sym c.known_length.ensures ∙ c.if-not-known_length.true)

pub returns-then-room-n : goal.returns-then-room-n
returns-then-room-n c =
    let a = c.args in
    work-short a.l a.keys_hash a.n a.room (sym c.is_key_length.ensures ∙ c.if-not-is_key_length.false) c.if-keys_hash-l.false (sym c.known_length.ensures ∙ c.if-not-known_length.false) c.if-room-n.true

pub returns : goal.returns
returns c =
    let a = c.args in
    no-fault a.l a.keys_hash a.n a.room (sym c.is_key_length.ensures ∙ c.if-not-is_key_length.false) c.if-keys_hash-l.false (sym c.known_length.ensures ∙ c.if-not-known_length.false) c.if-room-n.false
