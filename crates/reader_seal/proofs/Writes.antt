-- Writes one behind the other from the start of a buffer, as one: those of KeysHash's message, of STR2, of the data and of the command.
-- Assumes nothing.
use mathlib.Core.Path.{◌≡◌, refl, sym, ap, ◌∙◌}
use mathlib.Core.List.{List, [], ◌∷◌, ◌++◌, append_assoc, append-nil}
use Prim.Native.Nat.{ℕ, ◌+◌, ◌*◌, ◌/◌, ◌%◌, ◌^◌, ◌<◌}
use Rattle.std.specs.Int.{to_be_bytes}
use mir.Syntax.{w16}
use native.Mathlib.Omega.{arith}
use lib.ListN.{length, take, drop, length-append, drop_of_length-le}
use lib.Seq.{drop-drop}
use borrow.Author.Tests.{le-leb}
use borrow.Rule.Slice.PartMut.{put_mid}
use Rattle.octets.specs.Lists.{over, length_over}
use Rattle.octets.specs.Writes.{take-over, over-behind}
use Rattle.aes.specs.Aes.{aes_under}
use Rattle.padding.specs.Method2.{blocks_for, padded, pad_buffer}
use Rattle.padding.specs.Laws.{length-padded}
use Rattle.cbc.specs.Cbc.{encrypted_whole, zeros}
use Rattle.cbc.specs.Laws.{encrypted-all}
use Rattle.plaid_types.specs.declared.OpModeId.{OpModeId}
use Rattle.reader_seal.specs.Seal.{str2, sealed_blocks, lc_of, sealed_data, final_command}
use Rattle.reader_seal.specs.Laws.{length-str2}

-- what fills a buffer leaves nothing of it
pub over-all : (d s : List ℕ) → length d ≡ length s → over d 0 s ≡ s
unfolding over
over-all d s l = ap (λ (x : List ℕ). s ++ x) (drop_of_length-le d {i = 0 + length s} (omega arith)) ∙ append-nil s

-- a part that was lent and has other bytes now
pub put-over : (d s : List ℕ) (at n : ℕ) → length s ≡ n → put_mid at n d s ≡ over d at s
unfolding over
put-over d s at n l =
    ap (λ (x : List ℕ). take at d ++ (s ++ x)) (drop-drop n at d ∙ ap (λ (k : ℕ). drop (at + k) d) (sym l))
    ∙ sym (append_assoc (take at d) s (drop (at + length s) d))

pub both-written : (d a b : List ℕ) {e e' : List ℕ} → e ≡ over d 0 a → e' ≡ over e (length a) b → take (length a + length b) e' ≡ a ++ b
both-written d a b q r = ap (take (length a + length b)) (over-behind d a b refl q r) ∙ take-over d (a ++ b) (length a + length b) (length-append a b)

-- a mode's number in two bytes
pub number-bytes : (n : ℕ) → n < 2 ^ 16 → to_be_bytes w16 n ≡ n / 256 ∷ n % 256 ∷ []
number-bytes n h = ap (λ (x : ℕ). x ∷ n % 256 ∷ []) (omega arith)

pub str2-writes :
    (mode : OpModeId) (rnd2 payload hash d : List ℕ) {e₁ e₂ e₃ e₄ : List ℕ}
    → e₁ ≡ over d 0 (mode.0 / 256 ∷ mode.0 % 256 ∷ [])
    → e₂ ≡ over e₁ 2 rnd2
    → e₃ ≡ over e₂ (2 + length rnd2) payload
    → e₄ ≡ over e₃ (2 + length rnd2 + length payload) hash
    → e₄ ≡ over d 0 (str2 mode rnd2 payload hash)
unfolding str2
str2-writes mode rnd2 payload hash d q₁ q₂ q₃ q₄ =
    let number : List ℕ = mode.0 / 256 ∷ mode.0 % 256 ∷ [] in
    let w₂ = over-behind d number rnd2 refl q₁ q₂ in
    let w₃ = over-behind d (number ++ rnd2) payload (omega arith) w₂ q₃ in
    over-behind d (number ++ rnd2 ++ payload) hash (omega (arith, length-append rnd2 payload)) w₃ q₄
    ∙ ap (over d 0) (append_assoc (number ++ rnd2) payload hash ∙ append_assoc number rnd2 (payload ++ hash))

-- a text in a buffer of its blocks, padded
pub padded-over : (b s : List ℕ) (t : ℕ) → length s ≡ t → length b ≡ 16 * blocks_for t → pad_buffer (over b 0 s) t ≡ padded s
unfolding pad_buffer
padded-over b s t ls lb =
    let d : List ℕ = over b 0 s in
    let ld : length d ≡ 16 * blocks_for t = length_over b 0 s (omega arith) ∙ lb in
    rw (le-leb (16 * blocks_for t) (length d) (omega arith), take-over b s t ls)
    (over-all d (padded s) (omega (arith, length-padded s, ap blocks_for ls)))

pub data-writes :
    (l : ℕ) (key : List ℕ) (mode : OpModeId) (rnd2 payload hash b : List ℕ) {e₁ e₂ e₃ : List ℕ}
    → length rnd2 ≡ l
    → length hash ≡ l
    → length b ≡ lc_of l (length payload)
    → e₁ ≡ over b 0 (str2 mode rnd2 payload hash)
    → e₂ ≡ pad_buffer e₁ (2 + 2 * l + length payload)
    → e₃ ≡ encrypted_whole (aes_under key) zeros e₂
    → e₃ ≡ sealed_data l key mode rnd2 payload hash
unfolding sealed_data
data-writes l key mode rnd2 payload hash b lr lh lb q₁ q₂ q₃ =
    let s : List ℕ = str2 mode rnd2 payload hash in
    let t : ℕ = 2 + 2 * l + length payload in
    let ls : length s ≡ t = length-str2 l mode rnd2 payload hash lr lh in
    q₃
    ∙ ap (encrypted_whole (aes_under key) zeros)
    (q₂ ∙ ap (λ (x : List ℕ). pad_buffer x t) q₁ ∙ padded-over b s t ls lb)
    ∙ encrypted-all (aes_under key) (sealed_blocks l (length payload)) zeros (padded s) (length-padded s ∙ ap (λ (n : ℕ). 16 * blocks_for n) ls)

pub command-writes :
    (lc : ℕ) (d out : List ℕ) {e₁ e₂ e₃ : List ℕ}
    → length d ≡ lc
    → e₁ ≡ over out 0 (0 ∷ 0x86 ∷ 0 ∷ 0 ∷ lc ∷ [])
    → e₂ ≡ over e₁ 5 d
    → e₃ ≡ over e₂ (5 + lc) (0 ∷ [])
    → e₃ ≡ over out 0 (final_command lc d)
unfolding final_command
command-writes lc d out l q₁ q₂ q₃ =
    let head : List ℕ = 0 ∷ 0x86 ∷ 0 ∷ 0 ∷ lc ∷ [] in
    over-behind out (head ++ d) (0 ∷ []) (omega arith) (over-behind out head d refl q₁ q₂) q₃
    ∙ ap (over out 0) (append_assoc head d (0 ∷ []))
