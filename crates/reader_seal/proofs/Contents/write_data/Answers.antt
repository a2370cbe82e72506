-- `reader_seal::Contents::write_data` meets its contract: STR2 written, padded and enciphered is the data (`data-writes`). Assumes nothing.
use lib.ListN.{length}
use Rattle.reader_seal.proofs.Writes.{data-writes}
use Rattle.reader_seal.proofs.Contents.write_data.Goals as goal

pub returns : goal.returns
returns c =
    let s = c.args.self in
    data-writes
    (length s.key.now)
    s.key.now
    s.mode
    s.rnd2.now
    s.payload.now
    s.hash.now
    c.args.b.now
    s.rnd2_length
    s.hash_length
    c.requires
    c.write_str2.ensures
    c.pad.ensures.bytes
    c.encipher_under.ensures.1
