-- What Accept writes over its work buffer, from the start: the deciphered response, and zeros. Assumes nothing.
use mathlib.Core.Path.{◌≡◌, refl, ap, ap₂, ◌∙◌}
use mathlib.Core.List.{List, ◌++◌}
use Prim.Native.Nat.{ℕ, ◌+◌, ◌/◌, ◌%◌}
use native.Mathlib.Omega.{arith}
use lib.ListN.{length, take, drop}
use lib.Seq.{drop_at}
use Rattle.octets.specs.Lists.{over}
use Rattle.octets.specs.Writes.{take-over}
use Rattle.aes.specs.Aes.{inv_aes_under}
use Rattle.cbc.specs.Cbc.{decrypted_whole, zeros}
use Rattle.cbc.specs.Laws.{decrypted-all}
use Rattle.reader_accept.specs.Accept.{deciphered_text}
use Rattle.reader_accept.proofs.Laws.{length-text}

pub behind : (d s : List ℕ) (n : ℕ) → length s ≡ n → drop n (over d 0 s) ≡ drop n d
unfolding over
behind d s n l = let z : 0 + length s ≡ n = omega arith in drop_at s (drop (0 + length s) d) n l ∙ ap (λ (k : ℕ). drop k d) z

-- as many bytes again leave nothing of those before
pub over-again : (d s t : List ℕ) → length s ≡ length t → over (over d 0 s) 0 t ≡ over d 0 t
unfolding over
over-again d s t l = ap (λ (x : List ℕ). t ++ x) (behind d s (0 + length t) (omega arith))

-- the response is copied, and deciphered where it stands
pub deciphered-writes :
    (hash response work : List ℕ) {e x : List ℕ}
    → length response % 16 ≡ 0
    → e ≡ over work 0 response
    → x ≡ decrypted_whole (inv_aes_under hash) zeros (take (length response) e)
    → x ++ drop (length response) e ≡ over work 0 (deciphered_text hash response)
unfolding over deciphered_text
deciphered-writes hash response work {e} {x} m q r =
    let n : ℕ = length response in
    let t : x ≡ deciphered_text hash response =
    r
    ∙ ap (decrypted_whole (inv_aes_under hash) zeros) (ap (take n) q ∙ take-over work response n refl)
    ∙ decrypted-all (inv_aes_under hash) (n / 16) zeros response (omega arith) in
    let z : n ≡ 0 + length (deciphered_text hash response) = omega (arith, length-text hash response m) in
    ap₂ (λ (a b : List ℕ). a ++ b) t (ap (drop n) q ∙ behind work response n refl ∙ ap (λ (k : ℕ). drop k work) z)
