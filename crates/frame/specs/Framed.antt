-- A command in its frame, as a card reads it: 00, INS, 00 00, Lc, Lc data bytes, 00. It is without fault where INS is known. Assumes nothing.
use Rattle.std.specs.Prelude.{◌≡◌, true, List, [], ◌∷◌, ◌++◌, ℕ, ◌+◌, ◌-◌, ◌<◌, length}
use Rattle.std.proofs.Common.{◌∙◌, arith, length-append}
use borrow.Author.Tests.{le-ltb, eq-eqb}
use Rattle.std.proofs.Math.Seq.{take_at}
use Rattle.std.proofs.lemmas.List.{get_or_at}
use Rattle.octets.specs.Lists.{part}
use Rattle.frame.specs.Frame.{frame_of, cla_of, ins_of, p1_of, p2_of, lc_of, known_ins, whole, status_of, data_of}
use Rattle.frame.specs.Laws.{frame_byte, frame-last, whole_is}

module _ (ins lc : ℕ) (d : List ℕ) (e : length d ≡ lc) where
  abbrev command : List ℕ
  command = 0 ∷ ins ∷ 0 ∷ 0 ∷ lc ∷ (d ++ (0 ∷ []))

  command-long : length command ≡ lc + 6
  command-long = omega (arith, length-append d (0 ∷ []))

  framed-whole : 0 < lc → whole (length command) (frame_of command) ≡ true
  framed-whole h =
      let l : lc_of (frame_of command) ≡ lc = frame_byte command 4 (omega arith) in
      whole_is (length command) (frame_of command) (omega arith) (omega (arith, command-long))
      (frame-last command (omega (arith, command-long)) ∙ get_or_at (0 ∷ ins ∷ 0 ∷ 0 ∷ lc ∷ d) 0 [] 0 (length command - 1) (omega (arith, command-long)))

  pub framed-ins : ins_of (frame_of command) ≡ ins
  framed-ins = frame_byte command 1 (omega arith)

  pub framed-status : known_ins ins ≡ true → 0 < lc → status_of (length command) (frame_of command) ≡ 0x9000
  unfolding status_of
  framed-status k h =
      simp (
        le-ltb (length command) 4 (omega (arith, command-long)),
        eq-eqb (cla_of (frame_of command)) 0 (frame_byte command 0 (omega arith)),
        framed-ins,
        k,
        eq-eqb (p1_of (frame_of command)) 0 (frame_byte command 2 (omega arith)),
        eq-eqb (p2_of (frame_of command)) 0 (frame_byte command 3 (omega arith)),
        framed-whole h,
      )

  pub framed-data : data_of command ≡ d
  unfolding data_of part
  framed-data = take_at d (0 ∷ []) (length command - 6) (omega (arith, command-long))
