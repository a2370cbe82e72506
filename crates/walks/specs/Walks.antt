-- Rules for walks by hand (docs/PROVING.md). They name nothing of any crate. Assumes `Logic`.
--     asks         a contract without a `requires` asks what its parameters own, and nothing beside it
--     calls-told   the call of a function whose `ensures` states a fact: the fact and the result are had, and the tokens are back
--     calls_is     the same where the fact says which plain value the result is: that value's machine value lands
--     calls-plain  the same of a function that takes plain values: what it asks is had for nothing
--     copied       an operand that is a local, which stands at n
--     frees-at     the first local, which stands at n and holds a value, is freed
--     ends-four    the result goes into local 0 and is returned, and the four locals are freed
--     gone         of parameters that are plain values or `&`s, nothing is kept for the exit.      ends-gone        the walk ends, with the tokens and the result
--     meets-gone   such a walk shows that the function meets its contract
use Rattle.std.specs.Prelude.{◌≡◌, refl, ℕ, zero, List, [], ◌∷◌, T as Holds}
use Rattle.std.proofs.Common.{sym, ap, subst, ◌∙◌}
use seplogic.Ra.Ura.{Ura}
use base.Fraction.{full_share}
use mir.Syntax.{Callee, Ty, Fn, Place, place, Opd as Operand, copy, Body, seq, call, return}
use mir.Val.{Val, WT, has_ty}
use base.Logic.{SProp, ent, sep, emp, via, emp∗, comm∗, fst∗, snd∗, ex_e, id⊢}
use base.Fml.{Share, Fml, fat, froom, fdies}
use prog.Wp.{Env, Calls, Loops, WpFn, Tables, spot_of}
use types.Logic.{Logic, sem}
use contract.Lifetimes.{Lfts, Shares, AllOutlive}
use contract.Monad.{fact}
use types.Kit.{Item, ‵, raw, ◌⊛◌, some, later, ⋆, nth, del, sel⊢, Post, at_ret, Goal, prop, runs, lands, frees, Seq, Step, step, ◌$◌, ◌∵◌, !, qed, by, move, drop, use0, use1, use2, split, join, pick, suffices, frame, await, done}
use types.Run.{Opd, Opds, load, look, init, forget, stop, from, land, returns, free1, free0}
use sound.WpLaws.{FmC, WpFn-mono}
use denote.RattleType.{RattleType, Denots, Valss, flat, owns}
use denote.Laws.{Is, Ises, Are, Tells, Spells, valss, Tellss, Makes, Makess, owns_make, shows}
use denote.Signature.{Slot, type_at, types_at}
use denote.Steps.{peeks, heard, owned, only}
use denote.Triple.Statement.{Contract, Triple}
use denote.Triple.Call.{calls_at}
use denote.Triple.Entry.{Args, Res, alive, on_entry}
use denote.Triple.End.{Kepts, Fins}
use denote.Triple.Spec.{Meets, triple_of}
use denote.Triple.Clauses.{Ended, Clauses, AtExit, Lasts, at_exit, lasts, ensured, closing}
use denote.Triple.Walked.{Stays, stay_dropped, fits_of, has_of, walk_of, Silent, Goes-dropped, AllGo, ends_at, walked, walk_Meets}

pub asks : {M : Type 1} (𝓤 : Ura M) (P : SProp 𝓤) → ent 𝓤 P (sep 𝓤 P (emp 𝓤))
asks 𝓤 P = via 𝓤 (sep 𝓤 (emp 𝓤) P) (emp∗ 𝓤 P) (comm∗ 𝓤 (emp 𝓤) P)

module _ {M : Type 1} {𝓤 : Ura M} (𝓛 : Logic 𝓤) (T : Ended) (c : Clauses 𝓤 T) where
  abbrev Met : Contract 𝓤
  Met = triple_of 𝓛 T.signature (closing 𝓛 T c)

  -- at one call of it: the result's values, its type, the tokens, the parameters' types and what they own, what the `ensures` says
  module _ (y : Met.Ghost) where
    abbrev Found : Type 0
    Found = Res T.signature y.0.0

    abbrev Result : RattleType
    Result = type_at T.signature.result y.0.0

    abbrev tokens : Item 𝓤
    tokens = raw (alive 𝓛 T.signature y.0.0 y.0.1)

    abbrev Rows : List RattleType
    Rows = types_at T.signature.params y.0.0

    abbrev Asked : Type 1
    Asked = ent 𝓤 (on_entry 𝓛 T.signature y.0.0 y.0.1 y.0.3 y.0.4) (Met.pre y)

    abbrev States : (Found → Type 0) → Type 1
    States φ = (r : Found) (e : AtExit T y.0.0) → ent 𝓤 ((c y.0.0 y.0.3).ensures y.1 r e) (fact 𝓤 (φ r))

    -- the parameters have no `&mut`: what is said of last values is let go
    told : (φ : Found → Type 0) → States φ → (r : Found) → ent 𝓤 (ensured 𝓛 T c y.0.0 y.0.3 y.1 r) (fact 𝓤 (φ r))
    told φ states r = ex_e 𝓤 _ (λ ws. via 𝓤 _ (snd∗ 𝓤 (sem 𝓛 (lasts T y.0.0 y.0.3 ws)) _) (states r (at_exit T y.0.0 y.0.3 ws)))

module _ {M : Type 1} {𝓤 : Ura M} {𝓛 : Logic 𝓤} {K : Type 0} {Γ : List (Item 𝓤)} {E : Env 𝓤 𝓛.H} where
  open 𝓛 use {H}

  pub copied : K → {i : ℕ} (n : ℕ) {q : Share} {v : Val} → nth 𝓛 n Γ ≡ ‵ (fat q (spot_of 𝓤 H E i).0 (spot_of 𝓤 H E i).1 (spot_of 𝓤 H E i).2 v) → Opd K 𝓛 Γ E (copy (place i [])) v
  copied t n e = load t (from t (stop t)) (look t n e)

  pub frees-at : {g : Goal 𝓤 H} → K → (n : ℕ) {τ : Ty} {b : ℕ} {v : Val} → nth 𝓛 n Γ ≡ ‵ (fat full_share τ b zero v) → nth 𝓛 n (del 𝓛 n Γ) ≡ ‵ (fdies τ b)
      → Step K 𝓛 (del 𝓛 n (del 𝓛 n Γ)) (frees E g) Γ (frees ((τ, b) ∷ E) g)
  frees-at {g} t n {τ} {b} {v} e e' = step (λ s.
      let Δ : List (Item 𝓤) = del 𝓛 n (del 𝓛 n Γ) in
      let k : Seq K 𝓛 (‵ (fat full_share τ b zero v) ∷ ‵ (fdies τ b) ∷ Δ) (frees ((τ, b) ∷ E) g) = forget t 0 refl $ free1 t $ s in
      by t (via 𝓤 _
      (subst (λ (i : Item 𝓤). ent 𝓤 (⋆ 𝓛 Γ) (⋆ 𝓛 (i ∷ ‵ (fdies τ b) ∷ Δ))) e (subst (λ (j : Item 𝓤). ent 𝓤 (⋆ 𝓛 Γ) (⋆ 𝓛 (nth 𝓛 n Γ ∷ j ∷ Δ))) e' (sel⊢ 𝓛 (n ∷ n ∷ []) Γ)))
      k.prf))

module _ {M : Type 1} {𝓤 : Ura M} {𝓛 : Logic 𝓤} {K : Type 0} {C : Calls 𝓤 𝓛.H} {Λ : Loops 𝓤 𝓛.H} where
  open 𝓛 use {H}

  module _ {Γ : List (Item 𝓤)} {E : Env 𝓤 H} {f : Callee} {xs : List Operand} {d : Place} {rest : Body} {q : Post 𝓤 H} where
    pub calls-told : K → FmC 𝓤 H 𝓛.laws C → (T : Ended) (c : Clauses 𝓤 T) → Triple 𝓤 (C f) (Met 𝓛 T c) → (y : (Met 𝓛 T c).Ghost) (φ : Found 𝓛 T c y → Type 0) → States 𝓛 T c y φ → Opds K 𝓛 (raw ((Met 𝓛 T c).pre y) ∷ Γ) E xs ((Met 𝓛 T c).args y)
        → ((u : Val) (r : Found 𝓛 T c y) → φ r → Is (Result 𝓛 T c y) r (u ∷ []) → Seq K 𝓛 (‵ ((Result 𝓛 T c y).own_val r (u ∷ [])) ∷ tokens 𝓛 T c y ∷ Γ) (lands C Λ E d u rest q))
        → Seq K 𝓛 (raw ((Met 𝓛 T c).pre y) ∷ Γ) (runs C Λ E (seq (call f xs d) rest) q)
    calls-told t fm T c known y φ states os k =
        let R : RattleType = Result 𝓛 T c y in
        calls_at t fm (Met 𝓛 T c) known y os (λ u.
        use1 𝓛 (later (some (λ (r : Found 𝓛 T c y). (tokens 𝓛 T c y ⊛ ‵ (R.own_val r (u ∷ []))) ⊛ raw (ensured 𝓛 T c y.0.0 y.0.3 y.1 r)))) (id⊢ 𝓤 _) $ await t tt $ pick t (λ r.
        split t $ move t (1 ∷ []) $ use1 𝓛 (raw (fact 𝓤 (φ r))) (told 𝓛 T c y φ states r) $ heard t (φ r) (λ e. split t $ move t (1 ∷ []) $ peeks t R (Is R) (shows 𝓛 R) r (u ∷ []) (k u r e))))

    pub calls_is : K → FmC 𝓤 H 𝓛.laws C → (T : Ended) (c : Clauses 𝓤 T) → Triple 𝓤 (C f) (Met 𝓛 T c) → (y : (Met 𝓛 T c).Ghost) → Asked 𝓛 T c y
        → (vals : Found 𝓛 T c y → List Val) → Tells (Result 𝓛 T c y) (Is (Result 𝓛 T c y)) vals → (r : Found 𝓛 T c y) → States 𝓛 T c y (λ s. s ≡ r)
        → Opds K 𝓛 (raw ((Met 𝓛 T c).pre y) ∷ Γ) E xs ((Met 𝓛 T c).args y)
        → (Is (Result 𝓛 T c y) r (vals r) → Seq K 𝓛 (tokens 𝓛 T c y ∷ Γ) (lands C Λ E d (only (vals r)) rest q))
        → Seq K 𝓛 (tokens 𝓛 T c y ∷ ‵ (owns (Rows 𝓛 T c y) y.0.3 y.0.4) ∷ Γ) (runs C Λ E (seq (call f xs d) rest) q)
    calls_is t fm T c known y asked vals tells r states os k =
        use2 𝓛 (raw ((Met 𝓛 T c).pre y)) asked $ calls-told t fm T c known y (λ s. s ≡ r) states os (λ u s e is. drop t $
        let R : RattleType = Result 𝓛 T c y in
        let v : u ∷ [] ≡ vals s = tells s (u ∷ []) is in
        subst (λ (w : Val). Seq K 𝓛 (tokens 𝓛 T c y ∷ Γ) (lands C Λ E d w rest q)) (sym (ap only (v ∙ ap vals e))) (k (subst (λ (z : Found 𝓛 T c y). Is R z (vals z)) e (subst (Is R s) v is))))

    pub calls-plain : K → FmC 𝓤 H 𝓛.laws C → (T : Ended) (c : Clauses 𝓤 T) → Triple 𝓤 (C f) (Met 𝓛 T c) → (y : (Met 𝓛 T c).Ghost) → Asked 𝓛 T c y → ent 𝓤 (emp 𝓤) (alive 𝓛 T.signature y.0.0 y.0.1)
        → Makess 𝓛 (Rows 𝓛 T c y) (Ises (Rows 𝓛 T c y)) → Are (Rows 𝓛 T c y) (Ises (Rows 𝓛 T c y)) y.0.3 y.0.4
        → (vals : Found 𝓛 T c y → List Val) → Tells (Result 𝓛 T c y) (Is (Result 𝓛 T c y)) vals → (r : Found 𝓛 T c y) → States 𝓛 T c y (λ s. s ≡ r)
        → Opds K 𝓛 (raw ((Met 𝓛 T c).pre y) ∷ Γ) E xs ((Met 𝓛 T c).args y)
        → (Is (Result 𝓛 T c y) r (vals r) → Seq K 𝓛 Γ (lands C Λ E d (only (vals r)) rest q))
        → Seq K 𝓛 Γ (runs C Λ E (seq (call f xs d) rest) q)
    calls-plain t fm T c known y asked none made are vals tells r states os k =
        use0 𝓛 (‵ (owns (Rows 𝓛 T c y) y.0.3 y.0.4)) (owns_make 𝓛 (Rows 𝓛 T c y) (Ises (Rows 𝓛 T c y)) made y.0.3 y.0.4 are) $
        use0 𝓛 (tokens 𝓛 T c y) none $ calls_is t fm T c known y asked vals tells r states os (λ g. drop t $ k g)

  pub ends-four : {i j k : Item 𝓤} {τ₀ τ₁ τ₂ τ₃ : Ty} {b₀ b₁ b₂ b₃ : ℕ} {v₁ v₂ v₃ : Val} {Q : Val → SProp 𝓤} → K → (u : Val) → Holds (has_ty τ₀ u) × WT u
      → Step K 𝓛 (i ∷ j ∷ k ∷ []) (prop (Q u))
      (i ∷ j ∷ k ∷ ‵ (fat full_share τ₃ b₃ zero v₃) ∷ ‵ (fdies τ₃ b₃) ∷ ‵ (fat full_share τ₂ b₂ zero v₂) ∷ ‵ (fdies τ₂ b₂) ∷ ‵ (fat full_share τ₁ b₁ zero v₁) ∷ ‵ (fdies τ₁ b₁) ∷ ‵ (froom τ₀ b₀ zero) ∷ ‵ (fdies τ₀ b₀) ∷ [])
      (lands C Λ ((τ₀, b₀) ∷ (τ₁, b₁) ∷ (τ₂, b₂) ∷ (τ₃, b₃) ∷ []) (place 0 []) u return (at_ret ((τ₀, b₀) ∷ (τ₁, b₁) ∷ (τ₂, b₂) ∷ (τ₃, b₃) ∷ []) Q))
  ends-four t u wt = step (λ s. land t (from t (stop t)) (init t 9 refl wt) $ returns t (look t 9 refl) $ frees-at t 9 refl refl $ frees-at t 7 refl refl $ frees-at t 5 refl refl $ frees-at t 3 refl refl $ free0 t $ s)

module _ {n : ℕ} where
  abbrev pub gone : (ss : List (Slot n)) (ks : Kepts ss) → Stays ss ks
  gone [] ks = tt
  gone (s ∷ ss) ks = (stay_dropped s ks.0, gone ss ks.1)

  gone-fit : (κs : Lfts n) (ss : List (Slot n)) (ks : Kepts ss) (a : Denots (types_at ss κs)) (ws : Fins κs ss ks a) → fits_of κs ss ks (gone ss ks) a ws
  gone-fit κs [] ks a ws = tt
  gone-fit κs (s ∷ ss) ks a ws = (tt, gone-fit κs ss ks.1 a.1 ws.1)

module _ {M : Type 1} {𝓤 : Ura M} (𝓛 : Logic 𝓤) where
  open 𝓛 use {H}

  module _ {n : ℕ} where
    gone-had : (κs : Lfts n) (ss : List (Slot n)) (ks : Kepts ss) (a : Denots (types_at ss κs)) (ws : Fins κs ss ks a) (vss : Valss (types_at ss κs)) → ent 𝓤 (emp 𝓤) (sem 𝓛 (has_of κs ss ks (gone ss ks) a ws vss))
    gone-had κs [] ks a ws vss = id⊢ 𝓤 (emp 𝓤)
    gone-had κs (s ∷ ss) ks a ws vss = via 𝓤 _ (gone-had κs ss ks.1 a.1 ws.1 vss.1) (emp∗ 𝓤 _)

    -- nothing is said of what they are at exit
    abbrev Silents : (ss : List (Slot n)) → Kepts ss → Type 1
    Silents [] ks = Unit {1}
    Silents (s ∷ ss) ks = Silent 𝓛 n s ks.0 × Silents ss ks.1

    gone-go : (ss : List (Slot n)) (ks : Kepts ss) → Silents ss ks → AllGo 𝓛 n ss ks (gone ss ks)
    gone-go [] ks silent = tt
    gone-go (s ∷ ss) ks silent = (Goes-dropped 𝓛 n s ks.0 silent.0, gone-go ss ks.1 silent.1)

  module _ (T : Ended) (c : Clauses 𝓤 T) where
    abbrev pub Walk : Contract 𝓤
    Walk = walk_of 𝓛 T (gone T.signature.params T.kept) c

    pub ends-gone : (y : Walk.Ghost) (r : Res T.signature y.0.0) (v : Val) → Makes 𝓛 (type_at T.signature.result y.0.0) (Is (type_at T.signature.result y.0.0)) → Is (type_at T.signature.result y.0.0) r (v ∷ [])
        → (ws : Lasts T y.0.0 y.0.3) → ent 𝓤 (emp 𝓤) ((c y.0.0 y.0.3).ensures y.1 r (at_exit T y.0.0 y.0.3 ws))
        → ent 𝓤 (alive 𝓛 T.signature y.0.0 y.0.1) (Walk.post y v)
    ends-gone y r v makes is ws told =
        let R : RattleType = type_at T.signature.result y.0.0 in
        let has : Fml = has_of y.0.0 T.signature.params T.kept (gone T.signature.params T.kept) y.0.3 ws y.0.4 in
        qed 𝓛 (raw (alive 𝓛 T.signature y.0.0 y.0.1) ∷ []) ∵
        suffices ! _ (ends_at 𝓛 T (gone T.signature.params T.kept) c y v r ws (gone-fit y.0.0 T.signature.params T.kept y.0.3 ws)) $
        use0 𝓛 (raw ((c y.0.0 y.0.3).ensures y.1 r (at_exit T y.0.0 y.0.3 ws))) told $ owned ! R (Is R) makes r (v ∷ []) is $
        use0 𝓛 (‵ has) (gone-had y.0.0 T.signature.params T.kept y.0.3 ws y.0.4) $ join ! $ move ! (2 ∷ 0 ∷ []) $ join ! $ frame ! $ done !

    pub meets-gone : (f : Fn) (𝓣 : Tables 𝓤 H) → Silents T.signature.params T.kept
        → (sp : (κs : Lfts T.signature.lifetimes) → Spells (types_at T.signature.params κs)) → ((κs : Lfts T.signature.lifetimes) → Tellss (types_at T.signature.params κs) (Ises (types_at T.signature.params κs)) (sp κs))
        → ((κs : Lfts T.signature.lifetimes) (qs : Shares T.signature.lifetimes) (bounds : AllOutlive T.signature.lifetimes T.signature.outlives κs) (a : Args T.signature κs) (g : (c κs a).ghost)
        → Are (types_at T.signature.params κs) (Ises (types_at T.signature.params κs)) a (valss (types_at T.signature.params κs) (sp κs) a)
        → ent 𝓤 (on_entry 𝓛 T.signature κs qs a (valss (types_at T.signature.params κs) (sp κs) a))
        (WpFn 𝓤 H 𝓣.C 𝓣.Λ f (flat (types_at T.signature.params κs) (valss (types_at T.signature.params κs) (sp κs) a)) (Walk.post ((κs, qs, bounds, a, valss (types_at T.signature.params κs) (sp κs) a), g))))
        → Meets 𝓛 T.signature (WpFn 𝓤 H 𝓣.C 𝓣.Λ f) (closing 𝓛 T c)
    meets-gone f 𝓣 silent sp tl walk =
        walk_Meets 𝓛 T (gone T.signature.params T.kept) (gone-go T.signature.params T.kept silent) c (WpFn 𝓤 H 𝓣.C 𝓣.Λ f) (WpFn-mono 𝓤 H 𝓛.laws 𝓣 f)
        (walked 𝓛 T (gone T.signature.params T.kept) c (WpFn 𝓤 H 𝓣.C 𝓣.Λ f) sp tl (λ κs qs bounds a g are. via 𝓤 _ (fst∗ 𝓤 _ ((c κs a).requires g)) (walk κs qs bounds a g are)))
