-- Each function's record, and the whole of a final command, from what the calls hand back. Assumes nothing.
use Rattle.std.specs.Prelude.{⊤}
use mathlib.Core.Path.{◌≡◌, refl, sym, ap, ap₂, ◌∙◌}
use mathlib.Core.Bool.{Bool, false, cond}
use mathlib.Core.List.{List, [], ◌∷◌, ◌++◌, append_assoc}
use Prim.Native.Nat.{ℕ, ◌+◌, ◌*◌, ◌/◌, ◌≤◌}
use native.Mathlib.Omega.{arith}
use lib.Dec.{eqb}
use lib.ListN.{length, get_or, take, drop, replicate}
use Rattle.octets.specs.Lists.{part, over}
use Rattle.key_expansion.specs.Schedule.{fifteen}
use Rattle.aes.specs.Aes.{aes_under, inv_aes_under}
use Rattle.aes.specs.RoundTrip.{length-aes}
use Rattle.sha_block.specs.Hash.{sha256}
use Rattle.work.specs.declared.Made.{Made}
use Rattle.work.specs.Steps.{Step, comparison, decipherment, encipherment, expansion, hash_block, sum_from, counted, work_sum}
use Rattle.work.specs.Laws.{sum_from-append, counted-append}
use Rattle.cbc.specs.Cbc.{encrypted, decrypted, encrypted_whole, decrypted_whole, zeros}
use Rattle.cbc.specs.Steps.{enciphered, deciphered, made}
use Rattle.cbc.specs.Laws.{counted-enciphered}
use Rattle.steps.specs.Made.{expansion_step, hash_steps}
use Rattle.diversification.specs.Diversification.{diversified_by, diversify_steps}
use Rattle.diversification.specs.Laws.{counted-diversify}
use Rattle.plaid_types.specs.Keys.{key_length_of, wide, held}
use Rattle.plaid_types.specs.Cards.{no_mode}
use Rattle.plaid_types.specs.declared.OpModeId.{OpModeId}
use Rattle.plaid_types.specs.declared.ModeSlot.{ModeSlot}
use Rattle.plaid_types.specs.declared.Card.{Card}
use Rattle.final_command.specs.Final.{fa_key_of, diversified, blocks_in, text_of, hashed_of, card_keys_hash, op_mode, mode_steps, first_mode, mode_of, deciphered_text, accepting, accepts_final, reply_key, size_of, reply_text, reply_buffer, final_bytes, final_steps, final_reply}
use Rattle.final_command.specs.Told.{told_final}
use Rattle.final_command.specs.Parts.{div_steps, derived, deciphered_under, hashing, text_steps, opened_text, reply_steps, sent, buffer_of}
use Rattle.final_command.specs.Laws.{length-card_keys_hash, final-length, counted-modes}
use Rattle.final_command.specs.declared.Derived.{Derived}
use Rattle.final_command.specs.declared.Opened.{Opened}
use Rattle.final_command.specs.declared.Sent.{Sent}
use Rattle.final_command.specs.declared.Final.{Final}
use Rattle.final_command.proofs.Front.{front-deciphered, front-enciphered, buffer-front, buffer-decrypted, buffer-encrypted}
use Rattle.final_command.proofs.Keys.{length-first, held-choice, fa_key-is, diversified-is, rnd1-is}
use Rattle.final_command.proofs.Counts.{sum-four, div-expansions, text-comparisons, text-decipherments, text-encipherments, text-expansions, text-hash-blocks, reply-comparisons, reply-decipherments, reply-encipherments, reply-expansions, reply-hash-blocks}

-- what is told of an expansion
abbrev pub expanded : List ℕ → ℕ → Made (List (List ℕ))
expanded key sum = record { value = fifteen (length key / 4) key; count = counted expansion (expansion_step key ∷ []); sum = sum_from sum (expansion_step key ∷ []) }

-- the diversified key
pub derived-same : (fa div : List ℕ) (sum : ℕ) (e : Made (List (List ℕ))) (k : Made (List ℕ)) → e ≡ expanded fa sum →
    k ≡ record { value = wide (diversified_by fa div); count = counted encipherment (diversify_steps fa div); sum = sum_from e.sum (diversify_steps fa div) } →
    ◌≡◌ {A = Derived} (record { key = k.value; encipherments = k.count; expansions = e.count; sum = k.sum }) (derived fa div sum)
derived-same fa div sum e k qe qk =
    let key : k.value ≡ wide (diversified_by fa div) = ap (λ (r : Made (List ℕ)). r.value) qk in
    let n₁ : k.count ≡ counted encipherment (div_steps fa div) = omega (arith, ap (λ (r : Made (List ℕ)). r.count) qk) in
    let n₂ : e.count ≡ counted expansion (div_steps fa div) = ap (λ (r : Made (List (List ℕ))). r.count) qe ∙ sym (div-expansions fa div) in
    let s : k.sum ≡ sum_from sum (div_steps fa div) = ap (λ (r : Made (List ℕ)). r.sum) qk ∙ ap (λ (r : Made (List (List ℕ))). sum_from r.sum (diversify_steps fa div)) qe in
    λ i. record { key = key i; encipherments = n₁ i; expansions = n₂ i; sum = s i }

-- the text: z are the zero bytes, t them with the bytes of d that are deciphered, y those bytes afterwards
pub deciphered-same : (key d z t y : List ℕ) (inv : List ℕ → List ℕ) (n sum : ℕ) (m : Made ⊤) → n ≡ 16 * blocks_in d →
    t ≡ over z 0 (take n d) → m ≡ made decipherment sum (deciphered key inv (length (take n t) / 16) (take n t)) → y ≡ decrypted_whole inv zeros (take n t) →
    ◌≡◌ {A = Made (List ℕ)} (record { value = y ++ drop n t; count = m.count; sum = m.sum })
    (record { value = over z 0 (decrypted inv zeros (blocks_in d) d); count = counted decipherment (deciphered key inv (blocks_in d) d); sum = sum_from sum (deciphered key inv (blocks_in d) d) })
deciphered-same key d z t y inv n sum m e qt qm qy =
    let h : n ≤ length d = omega arith in
    let p : y ++ drop n t ≡ over z 0 (decrypted inv zeros (blocks_in d) d) = buffer-decrypted d (take n d) n (blocks_in d) e h refl z t y inv zeros qt qy in
    let f : take n t ≡ take n d = buffer-front d (take n d) n (blocks_in d) e h refl z t qt in
    let q : m ≡ made decipherment sum (deciphered key inv (blocks_in d) d) =
    qm
    ∙ ap (λ (a : List ℕ). made decipherment sum (deciphered key inv (length a / 16) a)) f
    ∙ ap (made decipherment sum) (front-deciphered d (take n d) n (blocks_in d) e h refl key inv) in
    λ i. record { value = p i; count = (q i).count; sum = (q i).sum }

-- up to the hash
pub opened-same : (c : Card) (d fa rnd : List ℕ) (l : ℕ) (k : Derived) (e : Made (List (List ℕ))) (t : Made (List ℕ)) (h : Made (List ℕ)) → l ≡ key_length_of c → length fa ≡ 32 → length rnd ≡ 32 →
    fa ≡ cond c.session.opened c.session.fa_key c.shill_key →
    k ≡ derived (take l fa) c.div_data 0 →
    e ≡ expanded (take l k.key) k.sum →
    t ≡ deciphered_under (take l k.key) d e.sum →
    rnd ≡ cond c.session.opened c.session.rnd1 (replicate 32 0) →
    h ≡ hashing (take l rnd ++ part t.value 2 (length (take l rnd))) t.sum →
    ◌≡◌ {A = Opened} (record { text = t.value; digest = h.value; decipherments = t.count; encipherments = k.encipherments; expansions = k.expansions + e.count; hash_blocks = h.count; sum = h.sum }) (opened_text c d)
unfolding text_of hashed_of text_steps
opened-same c d fa rnd l k e t h ql lf lr qfa qk qe qt qrnd qh =
    let div : List ℕ = c.div_data in
    let first : take l fa ≡ fa_key_of c = fa_key-is c fa l ql qfa in
    let k' : k ≡ derived (fa_key_of c) div 0 = qk ∙ ap (λ (x : List ℕ). derived x div 0) first in
    let key : take l k.key ≡ diversified c = diversified-is c fa l ql qfa k.key lf (ap (λ (r : Derived). r.key) k') in
    let s₁ : k.sum ≡ sum_from 0 (div_steps (fa_key_of c) div) = ap (λ (r : Derived). r.sum) k' in
    let e' : e ≡ expanded (diversified c) (sum_from 0 (div_steps (fa_key_of c) div)) = qe ∙ ap₂ expanded key s₁ in
    let t' : t ≡ deciphered_under (diversified c) d (sum_from (sum_from 0 (div_steps (fa_key_of c) div)) (expansion_step (diversified c) ∷ [])) =
    qt ∙ ap₂ (λ (x : List ℕ) (s : ℕ). deciphered_under x d s) key (ap (λ (r : Made (List (List ℕ))). r.sum) e') in
    let text : t.value ≡ text_of c d = ap (λ (r : Made (List ℕ)). r.value) t' in
    let n : length (take l rnd) ≡ key_length_of c = length-first c.key_length rnd ql lr ∙ ql in
    let m : take l rnd ++ part t.value 2 (length (take l rnd)) ≡ hashed_of c d = λ i. rnd1-is c rnd l ql qrnd i ++ part (text i) 2 (n i) in
    let made : List Step = deciphered (diversified c) (inv_aes_under (diversified c)) (blocks_in d) d in
    let h' : h ≡ hashing (hashed_of c d) (sum_from (sum_from (sum_from 0 (div_steps (fa_key_of c) div)) (expansion_step (diversified c) ∷ [])) made) =
    qh ∙ ap₂ hashing m (ap (λ (r : Made (List ℕ)). r.sum) t') in
    let s₄ : h.sum ≡ sum_from 0 (text_steps c d) =
    ap (λ (r : Made (List ℕ)). r.sum) h' ∙ sym (sum-four 0 (div_steps (fa_key_of c) div) (expansion_step (diversified c) ∷ []) made (hash_steps (hashed_of c d))) in
    let digest : h.value ≡ sha256 (hashed_of c d) = ap (λ (r : Made (List ℕ)). r.value) h' in
    let n₁ : t.count ≡ counted decipherment (text_steps c d) = ap (λ (r : Made (List ℕ)). r.count) t' ∙ text-decipherments c d in
    let n₂ : k.encipherments ≡ counted encipherment (text_steps c d) = omega (arith, ap (λ (r : Derived). r.encipherments) k', counted-diversify encipherment (fa_key_of c) div, text-encipherments c d) in
    let n₃ : k.expansions + e.count ≡ counted expansion (text_steps c d) =
    omega (arith, ap (λ (r : Derived). r.expansions) k', div-expansions (fa_key_of c) div, ap (λ (r : Made (List (List ℕ))). r.count) e', text-expansions c d) in
    let n₄ : h.count ≡ counted hash_block (text_steps c d) = ap (λ (r : Made (List ℕ)). r.count) h' ∙ text-hash-blocks c d in
    λ i. record { text = text i; digest = digest i; decipherments = n₁ i; encipherments = n₂ i; expansions = n₃ i; hash_blocks = n₄ i; sum = s₄ i }

-- behind the verdict: `buffer` is the reply text of so many blocks in its buffer b, and y the front of b enciphered
module _ (key key' b y o o' : List ℕ) (size size' n sum : ℕ) (buffer : ℕ → List ℕ) (e : Made (List (List ℕ))) (m : Made ⊤)
    (qk : key ≡ key') (qe : e ≡ expanded key sum)
    (qs : size ≡ size') (qb : b ≡ buffer size) (long : length b ≡ 96) (most : size ≤ 6) (qn : n ≡ 16 * size) where
  within : n ≤ length b
  within = omega arith

  buffer-is : b ≡ buffer size'
  buffer-is = qb ∙ ap buffer qs

  pub sent-same : m ≡ made encipherment e.sum (enciphered key (aes_under key) zeros (length (take n b) / 16) (take n b)) →
      ◌≡◌ {A = Sent} (record { encipherments = m.count; expansions = e.count; length = n; sum = m.sum }) (sent key' size' (buffer size') sum)
  unfolding reply_steps
  sent-same qm =
      let steps : List Step = enciphered key (aes_under key) zeros size b in
      let q : m ≡ made encipherment (sum_from sum (expansion_step key ∷ [])) steps =
      qm
      ∙ ap (λ (s : ℕ). made encipherment s (enciphered key (aes_under key) zeros (length (take n b) / 16) (take n b))) (ap (λ (r : Made (List (List ℕ))). r.sum) qe)
      ∙ ap (made encipherment (sum_from sum (expansion_step key ∷ []))) (front-enciphered b (take n b) n size qn within refl key (aes_under key) zeros) in
      let n₁ : m.count ≡ counted encipherment (reply_steps key size b) = ap (λ (r : Made ⊤). r.count) q ∙ counted-enciphered key (aes_under key) size zeros b ∙ sym (reply-encipherments key size b) in
      let n₂ : e.count ≡ counted expansion (reply_steps key size b) = ap (λ (r : Made (List (List ℕ))). r.count) qe ∙ sym (reply-expansions key size b) in
      let s : m.sum ≡ sum_from sum (reply_steps key size b) = ap (λ (r : Made ⊤). r.sum) q ∙ sym (sum_from-append sum (expansion_step key ∷ []) steps) in
      let a : ◌≡◌ {A = Sent} (record { encipherments = m.count; expansions = e.count; length = n; sum = m.sum }) (sent key size b sum) =
      λ i. record { encipherments = n₁ i; expansions = n₂ i; length = qn i; sum = s i } in
      a ∙ (λ i. sent (qk i) (qs i) (buffer-is i) sum)

  pub bytes_same : y ≡ encrypted_whole (aes_under key) zeros (take n b) → o' ≡ over o 0 (take n (y ++ drop n b)) → o' ≡ over o 0 (encrypted (aes_under key') zeros size' (buffer size'))
  bytes_same qy qo =
      let v : take n (y ++ drop n b) ≡ encrypted (aes_under key) zeros size b =
      buffer-encrypted b (take n b) n size qn within refl y (aes_under key) zeros (length-aes (length key / 4) key) qy in
      qo ∙ ap (over o 0) v ∙ (λ i. over o 0 (encrypted (aes_under (qk i)) zeros (qs i) (buffer-is i)))

-- the whole
module _ (c : Card) (d fresh : List ℕ) where
  steps-are : final_steps c d fresh ≡ text_steps c d ++ mode_steps (op_mode (text_of c d)) c.modes ++ reply_steps (reply_key c d) (size_of c) (reply_buffer c d fresh)
  unfolding final_steps text_steps reply_steps
  steps-are =
      append_assoc
      (text_steps c d ++ mode_steps (op_mode (text_of c d)) c.modes)
      (expansion_step (reply_key c d) ∷ [])
      (enciphered (reply_key c d) (aes_under (reply_key c d)) zeros (size_of c) (reply_buffer c d fresh))

  count-are : (k : ℕ) →
      counted k (text_steps c d) + counted k (mode_steps (op_mode (text_of c d)) c.modes) + counted k (reply_steps (reply_key c d) (size_of c) (reply_buffer c d fresh)) ≡ counted k (final_reply c d fresh).steps
  unfolding final_reply
  count-are k =
      ap (λ (x : ℕ). x + counted k (reply_steps (reply_key c d) (size_of c) (reply_buffer c d fresh))) (sym (counted-append k (text_steps c d) (mode_steps (op_mode (text_of c d)) c.modes)))
      ∙ sym (counted-append k (text_steps c d ++ mode_steps (op_mode (text_of c d)) c.modes) (reply_steps (reply_key c d) (size_of c) (reply_buffer c d fresh)))
      ∙ ap (counted k) (sym steps-are)

  sum_are : sum_from (sum_from (sum_from 0 (text_steps c d)) (mode_steps (op_mode (text_of c d)) c.modes)) (reply_steps (reply_key c d) (size_of c) (reply_buffer c d fresh)) ≡ work_sum (final_reply c d fresh).steps
  unfolding final_reply
  sum_are =
      ap (λ (x : ℕ). sum_from x (reply_steps (reply_key c d) (size_of c) (reply_buffer c d fresh))) (sym (sum_from-append 0 (text_steps c d) (mode_steps (op_mode (text_of c d)) c.modes)))
      ∙ sym (sum_from-append 0 (text_steps c d ++ mode_steps (op_mode (text_of c d)) c.modes) (reply_steps (reply_key c d) (size_of c) (reply_buffer c d fresh)))
      ∙ ap (sum_from 0) (sym steps-are)

  no-modes : (k : ℕ) → eqb comparison k ≡ false → counted k (mode_steps (op_mode (text_of c d)) c.modes) ≡ 0
  no-modes k h = counted-modes k (op_mode (text_of c d)) c.modes ∙ rw h (omega arith)

  module _ (o : Opened) (l : ℕ) (w : OpModeId) (f : Made ℕ) (ok : Bool) (mode : ModeSlot) (s : Sent) (qo : o ≡ opened_text c d) (ql : l ≡ key_length_of c) (qw : w ≡ op_mode o.text)
      (qf : f ≡ record { value = first_mode 0 w c.modes; count = counted comparison (mode_steps w c.modes); sum = sum_from o.sum (mode_steps w c.modes) })
      (qok : ok ≡ accepting (length (take l o.digest)) c.session.opened (length d) (part o.text 0 (16 * (length d / 16))) (take l o.digest) f.value)
      (qm : mode ≡ get_or c.modes f.value no_mode) where
    value-is : w ≡ op_mode (text_of c d)
    value-is = qw ∙ ap (λ (r : Opened). op_mode r.text) qo

    at-is : f.value ≡ mode_of c d
    unfolding mode_of
    at-is = ap (λ (r : Made ℕ). r.value) qf ∙ ap (λ (x : OpModeId). first_mode 0 x c.modes) value-is

    hash-is : take l o.digest ≡ card_keys_hash c d
    unfolding card_keys_hash part
    hash-is = λ i. take (ql i) (qo i).digest

    hash-long : length (take l o.digest) ≡ key_length_of c
    hash-long = ap length hash-is ∙ length-card_keys_hash c d

    ok-is : ok ≡ accepts_final c d
    unfolding accepts_final deciphered_text
    ok-is = qok ∙ (λ i. accepting (hash-long i) c.session.opened (length d) (part (qo i).text 0 (16 * (length d / 16))) (hash-is i) (at-is i))

    key-is : held (key_length_of c) (cond ok o.digest c.shill_key) ≡ reply_key c d
    unfolding reply_key card_keys_hash
    key-is =
        ap₂ (λ (t : Bool) (r : Opened). held (key_length_of c) (cond t r.digest c.shill_key)) ok-is qo
        ∙ held-choice (accepts_final c d) (key_length_of c) (sha256 (hashed_of c d)) c.shill_key

    buffer-same : buffer_of (reply_text ok c.area mode c.div_data fresh (size_of c)) ≡ reply_buffer c d fresh
    unfolding buffer_of reply_buffer
    buffer-same =
        ap₂ (λ (t : Bool) (x : ModeSlot). over (replicate 96 0) 0 (reply_text t c.area x c.div_data fresh (size_of c))) ok-is (qm ∙ ap (λ (i : ℕ). get_or c.modes i no_mode) at-is)

    pub final-told : s ≡ sent (held (key_length_of c) (cond ok o.digest c.shill_key)) (size_of c) (buffer_of (reply_text ok c.area mode c.div_data fresh (size_of c))) f.sum →
        ◌≡◌ {A = Final}
        (record {
          comparisons = f.count;
          decipherments = o.decipherments;
          encipherments = o.encipherments + s.encipherments;
          expansions = o.expansions + s.expansions;
          hash_blocks = o.hash_blocks;
          length = s.length;
          sum = s.sum;
          accepted = ok;
        })
        (told_final (accepts_final c d) (final_reply c d fresh))
    final-told qs =
        let key : List ℕ = reply_key c d in
        let b : List ℕ = reply_buffer c d fresh in
        let z : s ≡ sent key (size_of c) b f.sum = qs ∙ ap₂ (λ (x y : List ℕ). sent x (size_of c) y f.sum) key-is buffer-same in
        let fc : f.count ≡ counted comparison (mode_steps (op_mode (text_of c d)) c.modes) = ap (λ (r : Made ℕ). r.count) qf ∙ ap (λ (x : OpModeId). counted comparison (mode_steps x c.modes)) value-is in
        let fs : f.sum ≡ sum_from (sum_from 0 (text_steps c d)) (mode_steps (op_mode (text_of c d)) c.modes) =
        ap (λ (r : Made ℕ). r.sum) qf ∙ ap₂ (λ (r : Opened) (x : OpModeId). sum_from r.sum (mode_steps x c.modes)) qo value-is in
        let n₁ : f.count ≡ counted comparison (final_reply c d fresh).steps = omega (arith, fc, count-are comparison, text-comparisons c d, reply-comparisons key (size_of c) b) in
        let n₂ : o.decipherments ≡ counted decipherment (final_reply c d fresh).steps =
        omega (arith, ap (λ (r : Opened). r.decipherments) qo, count-are decipherment, no-modes decipherment refl, reply-decipherments key (size_of c) b) in
        let n₃ : o.encipherments + s.encipherments ≡ counted encipherment (final_reply c d fresh).steps =
        omega (arith, ap (λ (r : Opened). r.encipherments) qo, ap (λ (r : Sent). r.encipherments) z, count-are encipherment, no-modes encipherment refl) in
        let n₄ : o.expansions + s.expansions ≡ counted expansion (final_reply c d fresh).steps =
        omega (arith, ap (λ (r : Opened). r.expansions) qo, ap (λ (r : Sent). r.expansions) z, count-are expansion, no-modes expansion refl) in
        let n₅ : o.hash_blocks ≡ counted hash_block (final_reply c d fresh).steps =
        omega (arith, ap (λ (r : Opened). r.hash_blocks) qo, count-are hash_block, no-modes hash_block refl, reply-hash-blocks key (size_of c) b) in
        let l : s.length ≡ length (final_reply c d fresh).bytes = ap (λ (r : Sent). r.length) z ∙ sym (final-length c d fresh) in
        let t : s.sum ≡ work_sum (final_reply c d fresh).steps = ap (λ (r : Sent). r.sum) z ∙ ap (λ (x : ℕ). sum_from x (reply_steps key (size_of c) b)) fs ∙ sum_are in
        λ i. record { comparisons = n₁ i; decipherments = n₂ i; encipherments = n₃ i; expansions = n₄ i; hash_blocks = n₅ i; length = l i; sum = t i; accepted = ok-is i }

    pub final-bytes : (out out' : List ℕ) →
        out' ≡ over out 0 (encrypted (aes_under (held (key_length_of c) (cond ok o.digest c.shill_key))) zeros (size_of c) (buffer_of (reply_text ok c.area mode c.div_data fresh (size_of c)))) →
        out' ≡ over out 0 (final_reply c d fresh).bytes
    unfolding final_reply final_bytes
    final-bytes out out' q = q ∙ ap₂ (λ (x y : List ℕ). over out 0 (encrypted (aes_under x) zeros (size_of c) y)) key-is buffer-same
