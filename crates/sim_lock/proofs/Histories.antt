-- The entries of a session, and beginnings of a history.
use Rattle.std.proofs.Common.{◌≡◌, ◌≢◌, ℕ, zero, suc, ◌+◌, ◌-◌, true, false, cond, List, [], ◌∷◌, ◌++◌, length, Some, refl, sym, ap, ◌∙◌, subst, arith, append_assoc, append-nil, length-append, eq-eqb, ne_eqb}
use Rattle.std.specs.Prelude.{◌==◌, Result, Ok, Err, IfOk, IfErr, OnErr, slice_get}
use Rattle.sim_lock.specs.declared.rule.Part.{Part}
use Rattle.sim_lock.specs.Entries.{of_session, Begins, Grows, EndsWith}
use Rattle.sim_lock.specs.Rule.{session_in, mine_in, seen_in, holds_in, ScenarioIs, took, gave}

module _ {E : Type 0} where
  pub begins_self : (log : List E) → Begins log log
  begins_self log = ([], sym (append-nil log))

  pub begins_more : (a b own : List E) → Begins a b → Begins a (b ++ own)
  begins_more a b own h = (h.0 ++ own, ap (λ l. l ++ own) h.1 ∙ append_assoc a h.0 own)

  -- what stands in a list stands there still once it has one more
  pub get_before : (l : List E) (e r : E) (n : ℕ) → slice_get l n ≡ Some r → slice_get (l ++ e ∷ []) n ≡ Some r
  get_before [] e r n h = cc
  get_before (x ∷ xs) e r zero h = h
  get_before (x ∷ xs) e r (suc n) h = get_before xs e r n h

  pub get_last : (l : List E) (e : E) → slice_get (l ++ e ∷ []) (length l) ≡ Some e
  get_last [] e = refl
  get_last (x ∷ xs) e = get_last xs e

module _ {E : Type 0} (whose : E → ℕ) where
  pub of_append : (s : ℕ) (a b : List E) → of_session whose s (a ++ b) ≡ of_session whose s a ++ of_session whose s b
  of_append s [] b = refl
  of_append s (x ∷ xs) b =
      elim (whose x == s) as (λ t. cond t (x ∷ of_session whose s (xs ++ b)) (of_session whose s (xs ++ b)) ≡ cond t (x ∷ of_session whose s xs) (of_session whose s xs) ++ of_session whose s b) [
        | true ↦ ap (λ l. x ∷ l) (of_append s xs b)
        | false ↦ of_append s xs b
      ]

  pub of_one : (s : ℕ) (e : E) → whose e ≡ s → of_session whose s (e ∷ []) ≡ e ∷ []
  of_one s e is = ap (λ t. cond t (e ∷ []) []) (eq-eqb (whose e) s is)

  pub of_none : (s : ℕ) (e : E) → whose e ≢ s → of_session whose s (e ∷ []) ≡ []
  of_none s e is = ap (λ t. cond t (e ∷ []) []) (ne_eqb (whose e) s is)

module _ {E F : Type 0} (whose number_of : E → ℕ) (tells : F → List E → Type 0) where
  -- what a turn of the session s says of its answer and of the history
  pub record Turned (s : ℕ) (old new : List E) (r : Result E F) : Type 0 where
    pub asked : IfOk r (λ e. whose e ≡ s)
    pub number : IfOk r (λ e. number_of e ≡ length (of_session whose s old) + 1)
    pub kept : IfOk r (λ e. new ≡ old ++ e ∷ [])
    pub not_taken : IfErr r (λ why. (new ≡ old) × tells why old)

  pub turned_grows : (s : ℕ) (old new : List E) (r : Result E F) → Turned s old new r → Grows whose s old new
  turned_grows s old new (Ok e) t = (e ∷ [], t.kept, λ k apart. of_none whose k e (λ is. apart (sym is ∙ t.asked)))
  turned_grows s old new (Err why) t = ([], t.not_taken.0 ∙ sym (append-nil old), λ k apart. refl)

  -- the first part has this entry as its receipt
  abbrev pub Receives : {C : Type 0} → List (Part C E) → E → Type 0
  Receives {C} v e = (whose e ≡ session_in v) × (slice_get (mine_in v) (number_of e - 1) ≡ Some e)

  -- what a call does to its seat's view
  pub record Called {C : Type 0} (v : List (Part C E)) (r : Result E F) (w : List (Part C E)) : Type 0 where
    pub long : length w ≡ 1
    pub idle : holds_in w ≡ false
    pub session : session_in w ≡ session_in v
    pub scenario : (c : C) → ScenarioIs c v → ScenarioIs c w
    pub number : IfOk r (λ e. number_of e ≡ length (mine_in w))
    pub mine : IfOk r (λ e. mine_in w ≡ mine_in v ++ e ∷ [])
    pub last : IfOk r (λ e. EndsWith (seen_in w) e)
    pub not_taken : OnErr r (mine_in w ≡ mine_in v)
    pub tells_it : IfErr r (λ why. tells why (seen_in w))
    pub seen : Begins (seen_in v) (seen_in w)
    pub receipt : IfOk r (λ e. Receives w e)
    pub receipts : (e : E) → Receives v e → Receives w e

  calls : {C : Type 0} (v : List (Part C E)) (log new : List E) (r : Result E F) → length v ≡ 1 → of_session whose (session_in v) log ≡ mine_in v → Begins (seen_in v) log
      → Turned (session_in v) log new r → Called v r (gave whose (took v log) new)
  calls [] log new r one mine begins t = absurd (omega arith)
  calls (p ∷ q ∷ qs) log new r one mine begins t = absurd (omega arith)
  calls (p ∷ []) log new (Err why) one mine begins t =
      let same : new ≡ log = t.not_taken.0 in
      let still : of_session whose p.session new ≡ p.mine = ap (of_session whose p.session) same ∙ mine in record {
        long = refl;
        idle = refl;
        session = refl;
        scenario = λ c h. h;
        number = tt;
        mine = tt;
        last = tt;
        not_taken = still;
        tells_it = subst (tells why) (sym same) t.not_taken.1;
        seen = subst (Begins p.seen) (sym same) begins;
        receipt = tt;
        receipts = λ e h. (h.0, ap (λ l. slice_get l (number_of e - 1)) still ∙ h.1);
      }
  calls (p ∷ []) log new (Ok e) one mine begins t =
      let s : ℕ = p.session in
      let added : of_session whose s new ≡ p.mine ++ e ∷ [] =
      ap (of_session whose s) t.kept ∙ (of_append whose s log (e ∷ []) ∙ (ap (λ l. of_session whose s log ++ l) (of_one whose s e t.asked) ∙ ap (λ l. l ++ e ∷ []) mine)) in
      let long : length (of_session whose s new) ≡ length p.mine + 1 = omega (arith, ap length added, length-append p.mine (e ∷ [])) in
      let count : number_of e ≡ length p.mine + 1 = omega (arith, t.number, ap length mine) in
      let place : number_of e - 1 ≡ length p.mine = omega (arith, count) in record {
        long = refl;
        idle = refl;
        session = refl;
        scenario = λ c h. h;
        number = count ∙ sym long;
        mine = added;
        last = (log, t.kept);
        not_taken = tt;
        tells_it = tt;
        seen = subst (Begins p.seen) (sym t.kept) (begins_more p.seen log (e ∷ []) begins);
        receipt = (t.asked, ap (λ l. slice_get l (number_of e - 1)) added ∙ (ap (slice_get (p.mine ++ e ∷ [])) place ∙ get_last p.mine e));
        receipts = λ r h. (h.0, ap (λ l. slice_get l (number_of r - 1)) added ∙ get_before p.mine e r (number_of r - 1) h.1);
      }

  pub grows_taken : {C : Type 0} (v w : List (Part C E)) (log new : List E) (r : Result E F) → length v ≡ 1 → w ≡ took v log → Turned (session_in v) log new r → Grows whose (session_in w) (seen_in w) new
  grows_taken [] w log new r one is t = absurd (omega arith)
  grows_taken (p ∷ ps) w log new r one is t = subst (λ x. Grows whose (session_in x) (seen_in x) new) (sym is) (turned_grows p.session log new r t)

  pub called : {C : Type 0} (v u w : List (Part C E)) (log new : List E) (r : Result E F) → length v ≡ 1 → u ≡ took v log → w ≡ gave whose u new → of_session whose (session_in v) log ≡ mine_in v → Begins (seen_in v) log
      → Turned (session_in v) log new r → Called v r w
  called v u w log new r one took_is gave_is mine begins t = subst (λ x. Called v r x) (sym (gave_is ∙ ap (λ x. gave whose x new) took_is)) (calls v log new r one mine begins t)

-- whose an entry is, and what it was asked
pub asked_of : {D E F : Type 0} (whose : E → ℕ) (command_of : E → D) (s : ℕ) (command : D) (r : Result E F) → IfOk r (λ e. (whose e ≡ s) × (command_of e ≡ command))
    → IfOk r (λ e. whose e ≡ s) × IfOk r (λ e. command_of e ≡ command)
asked_of whose command_of s command (Ok e) h = (h.0, h.1)
asked_of whose command_of s command (Err why) h = (tt, tt)

-- the entry of a turn that gives more
abbrev pub entry_of : {E F G : Type 0} → Result (E × G) F → Result E F
entry_of (Ok e) = Ok e.0
entry_of (Err why) = Err why

module _ {E F G : Type 0} where
  pub more_ok : (P : E → Type 0) (r : Result (E × G) F) → IfOk r (λ e. P e.0) → IfOk (entry_of r) P
  more_ok P (Ok e) h = h
  more_ok P (Err why) h = tt

  pub more_err : (P : F → Type 0) (r : Result (E × G) F) → IfErr r P → IfErr (entry_of r) P
  more_err P (Ok e) h = tt
  more_err P (Err why) h = h

  pub ok_more : (P : E → Type 0) (r : Result (E × G) F) → IfOk (entry_of r) P → IfOk r (λ e. P e.0)
  ok_more P (Ok e) h = h
  ok_more P (Err why) h = tt

  pub err_more : (P : F → Type 0) (r : Result (E × G) F) → IfErr (entry_of r) P → IfErr r P
  err_more P (Ok e) h = tt
  err_more P (Err why) h = h

  pub on_err_more : (P : Type 0) (r : Result (E × G) F) → OnErr (entry_of r) P → OnErr r P
  on_err_more P (Ok e) h = tt
  on_err_more P (Err why) h = h

pub turned_more : {D E F G : Type 0} (whose number_of : E → ℕ) (tells : F → List E → Type 0) (command_of : E → D) (s : ℕ) (command : D) (old new : List E) (r : Result (E × G) F)
    → IfOk r (λ e. (whose e.0 ≡ s) × (command_of e.0 ≡ command)) → IfOk r (λ e. number_of e.0 ≡ length (of_session whose s old) + 1) → IfOk r (λ e. new ≡ old ++ e.0 ∷ [])
    → IfErr r (λ why. (new ≡ old) × tells why old) → Turned whose number_of tells s old new (entry_of r)
turned_more whose number_of tells command_of s command old new (Ok e) asked number kept not_taken = record { asked = asked.0; number = number; kept = kept; not_taken = tt }
turned_more whose number_of tells command_of s command old new (Err why) asked number kept not_taken = record { asked = tt; number = tt; kept = tt; not_taken = not_taken }

-- what is given by the book's scenario is given by the scenario of the part
pub gives_told : {C E F G : Type 0} (gives : C → E → G → Type 0) (v : List (Part C E)) → length v ≡ 1 → (s : C) → ScenarioIs s v → (r : Result (E × G) F) → IfOk r (λ e. gives s e.0 e.1)
    → IfOk r (λ e. (c : C) → ScenarioIs c v → gives c e.0 e.1)
gives_told gives v one s is (Err why) h = tt
gives_told gives [] one s is (Ok e) h = absurd (omega arith)
gives_told gives (p ∷ ps) one s is (Ok e) h = λ c same. subst (λ x. gives x e.0 e.1) (is ∙ sym same) h
