-- From a turn on one branch to a turn of the book.
use Rattle.std.proofs.Common.{◌≡◌, ℕ, zero, suc, ◌<◌, ◌≤◌, false, List, [], ◌∷◌, ◌++◌, Option, Some, None, length, set, get_or, inl, inr, refl, sym, ap, ◌∙◌, subst, arith, nat_le, nat_lt, take, IsTrue}
use Rattle.std.specs.Prelude.{if◌then◌else◌, IfSome}
use Rattle.sim_runs.specs.Watches.{AreChecked}
use Rattle.std.proofs.lemmas.Bool.{le-ltb}
use Rattle.std.proofs.lemmas.Bool.Decides.{nat_tests}
use Rattle.std.proofs.lemmas.List.{set-get_or, append-nil, map-set, get_or-map, length-map, map-append}
use Rattle.sim_node.specs.Node.{NodeLaws}
use Rattle.sim_events.specs.Scenario.{Scenario}
use Rattle.sim_world.specs.Events.{Rules, rules}
use Rattle.sim_tape.specs.Tape.{Tape}
use Rattle.sim_watch.specs.Condition.{Cond, fault_of}
use Rattle.sim_watch.specs.declared.command.Command.{Command}
use Rattle.sim_watch.specs.declared.command.Command.TheVariants as command
use Rattle.sim_book.specs.declared.Refusal.{Refusal}
use Rattle.sim_book.specs.declared.Refusal.TheVariants as refusal
use Rattle.sim_book.specs.declared.Reply.{Reply}
use Rattle.sim_book.specs.declared.Reply.TheVariants as reply
use Rattle.sim_runs.specs.Branch.{Branch}
use Rattle.sim_book.specs.Book.{Book, branch, with_branch, empty_branch}
use Rattle.sim_watch.specs.Commands.{branch_of, makes_branch}
use Rattle.sim_book.specs.Answer.{first_refusal, later_checks, refusal_of, branch_after, branches_made, answer_by, after_by}
use Rattle.sim_book.specs.History.{IsTurn, leaves_room_for_want}
use Rattle.sim_node.specs.Work.{Work}
use Rattle.sim_book.specs.Keeps.{Keeps}
use Rattle.sim_book.specs.Works.{Works}
use Rattle.sim_book.specs.Kept.{Kept, shown, all_shown}
use Rattle.sim_runs.specs.Branch.{branch_with}
use Rattle.sim_book.specs.OnBranch.{IsTurnOn, refusal_on, reply_on, after_on}
use Rattle.sim_book.specs.BookOf.{AllKept, IsKept}

module _ {State Msg : Type 0} (r : Rules State Msg) where
  pub made_none : (c : Command) (x : Branch) → makes_branch c ≡ false → branches_made r c x ≡ []
  made_none (command.Step b) x e = refl
  made_none (command.Tick b) x e = refl
  made_none (command.Run b n) x e = refl
  made_none (command.Fault b f) x e = refl
  made_none (command.Back b n) x e = refl
  made_none (command.Forward b n) x e = refl
  made_none (command.Goto b p) x e = refl
  made_none (command.Rewind b n) x e = refl
  made_none (command.Cut b) x e = refl
  made_none (command.Branch b p) x e = cc
  made_none (command.Watch b c) x e = refl
  made_none (command.Unwatch b w) x e = refl
  made_none (command.Look b q) x e = refl
  made_none (command.Freeze b) x e = refl

  answers_are : (o : Option Refusal) (book : Book) (c : Command) → reply_on r o book (branch (branch_of c) book) c ≡ answer_by r o c book
  answers_are (Some x) book c = refl
  answers_are None book c = refl

  after_are : (o : Option Refusal) (book : Book) (c : Command) (y : Branch) → branches_made r c (branch (branch_of c) book) ≡ [] → y ≡ after_on r o (branch (branch_of c) book) c
      → with_branch (branch_of c) y book ≡ after_by r o c book
  after_are (Some x) book c y none is = ap (λ z. with_branch (branch_of c) z book) is ∙ set-get_or book (branch_of c) empty_branch
  after_are None book c y none is =
      ap (λ z. with_branch (branch_of c) z book) is ∙ sym (append-nil (with_branch (branch_of c) (branch_after r c (branch (branch_of c) book)) book))
      ∙ ap (λ made. with_branch (branch_of c) (branch_after r c (branch (branch_of c) book)) book ++ made) (sym none)

  pub on_book : (book : Book) (y : Branch) (c : Command) (given : Reply) → branch_of c < length book → makes_branch c ≡ false
      → IsTurnOn r book (branch (branch_of c) book) c given y → IsTurn r book c given (with_branch (branch_of c) y book)
  on_book book y c given there plain turn =
      let x : Branch = branch (branch_of c) book in
      let here : nat_le (length book) (branch_of c) ≡ false = grind (arith, nat_tests) in
      let none : branches_made r c x ≡ [] = made_none c x plain in
      let known : refusal_of r c book ≡ refusal_on r book x c =
      ap (λ t. if t then Some refusal.UnknownBranch else first_refusal (later_checks r book x c)) here in
      elim turn [
        | inl a ↦ inl (a.0 ∙ ap (λ o. reply_on r o book x c) (sym known) ∙ answers_are (refusal_of r c book) book c, after_are (refusal_of r c book) book c y none (a.1 ∙ ap (λ o. after_on r o x c) (sym known)))
        | inr w ↦ inr (w.0, subst (λ (o : Option Refusal). IsTrue (leaves_room_for_want o)) (sym known) w.1, w.2, ap (λ z. with_branch (branch_of c) z book) w.3 ∙ set-get_or book (branch_of c) empty_branch)
      ]

  pub on_kept : (ks : List Kept) (k k' : Kept) (c : Command) (given : Reply) (b : ℕ) → b < length ks → b ≡ branch_of c → k ≡ get_or ks b k → makes_branch c ≡ false
      → ((book : Book) → IsTurnOn r book (shown k) c given (shown k')) → IsTurn r (all_shown ks) c given (all_shown (set ks b k'))
  on_kept ks k k' c given b there named at plain turn =
      let within : branch_of c < length (all_shown ks) = omega (arith, length-map ks shown) in
      let here : branch (branch_of c) (all_shown ks) ≡ shown k = ap (λ n. branch n (all_shown ks)) (sym named) ∙ get_or-map shown ks b k empty_branch there ∙ ap shown (sym at) in
      let whole : with_branch (branch_of c) (shown k') (all_shown ks) ≡ all_shown (set ks b k') = ap (λ n. with_branch n (shown k') (all_shown ks)) (sym named) ∙ sym (map-set shown ks b k') in
      subst (λ (book : Book). IsTurn r (all_shown ks) c given book) whole
      (on_book (all_shown ks) (shown k') c given within plain
      (subst (λ (x : Branch). IsTurnOn r (all_shown ks) x c given (shown k')) (sym here) (turn (all_shown ks))))

module _ {State Msg : Type 0} (node : NodeLaws State Msg) (probes : ℕ) where
  -- the turn on a tape is one on its branch
  pub kept_turn : (k k' : Kept) (t u : Tape) (ws ws' : List (Option Cond)) (book : Book) (c c' : Command) (given : Reply) → record { tape = t; watches = ws } ≡ k → record { tape = u; watches = ws' } ≡ k'
      → c ≡ c' → IsTurnOn (rules node probes t.scenario) book (branch_with ws t) c' given (branch_with ws' u) → IsTurnOn (rules node probes k.tape.scenario) book (shown k) c given (shown k')
  kept_turn k k' t u ws ws' book c c' given is_k is_k' is_c turn =
      subst (λ (v : Kept). IsTurnOn (rules node probes v.tape.scenario) book (shown v) c given (shown k')) is_k
      (subst (λ (v : Kept). IsTurnOn (rules node probes t.scenario) book (branch_with ws t) c given (shown v)) is_k'
      (subst (λ (d : Command). IsTurnOn (rules node probes t.scenario) book (branch_with ws t) d given (branch_with ws' u)) (sym is_c) turn))

  -- and, where the tapes are of one scenario, one of the book
  pub kept_on : (s : Scenario) (ks : List Kept) (k k' : Kept) (c : Command) (given : Reply) (b : ℕ) → b < length ks → b ≡ branch_of c → k ≡ get_or ks b k → makes_branch c ≡ false
      → AllKept probes s ks → ((book : Book) → IsTurnOn (rules node probes k.tape.scenario) book (shown k) c given (shown k')) → IsTurn (rules node probes s) (all_shown ks) c given (all_shown (set ks b k'))
  kept_on s ks k k' c given b there named at plain same turn =
      let scenario : k.tape.scenario ≡ s = ap (λ v. v.tape.scenario) at ∙ (same b k there).scenario in
      on_kept (rules node probes s) ks k k' c given b there named at plain
      (subst (λ (z : Scenario). (book : Book) → IsTurnOn (rules node probes z) book (shown k) c given (shown k')) scenario turn)

-- the watches of a new branch
pub no_watch : (k : ℕ) → get_or {A = Option Cond} (None ∷ None ∷ None ∷ None ∷ None ∷ None ∷ None ∷ None ∷ []) k None ≡ None
no_watch zero = refl
no_watch (suc zero) = refl
no_watch (suc (suc zero)) = refl
no_watch (suc (suc (suc zero))) = refl
no_watch (suc (suc (suc (suc zero)))) = refl
no_watch (suc (suc (suc (suc (suc zero))))) = refl
no_watch (suc (suc (suc (suc (suc (suc zero)))))) = refl
no_watch (suc (suc (suc (suc (suc (suc (suc zero))))))) = refl
no_watch (suc (suc (suc (suc (suc (suc (suc (suc k)))))))) = refl

pub none_checked : (hosts probes : ℕ) → AreChecked hosts probes (None ∷ None ∷ None ∷ None ∷ None ∷ None ∷ None ∷ None ∷ [])
none_checked hosts probes k = subst (λ (o : Option Cond). IfSome o (λ c. fault_of hosts probes c ≡ None)) (sym (no_watch k)) tt

module _ {State Msg : Type 0} (node : NodeLaws State Msg) (probes : ℕ) where
  pub kept_keeps : (k : Kept) (t u : Tape) (ws : List (Option Cond)) (c c' : Command) (given : Reply) → record { tape = t; watches = ws } ≡ k → c ≡ c' → Keeps node probes c' given t u
      → Keeps node probes c given k.tape u
  kept_keeps k t u ws c c' given is_k is_c keeps =
      subst (λ (v : Kept). Keeps node probes c given v.tape u) is_k (subst (λ (d : Command). Keeps node probes d given t u) (sym is_c) keeps)

  pub kept_works : (k : Kept) (t u : Tape) (ws : List (Option Cond)) (c c' : Command) (given : Reply) (a b : Work) → record { tape = t; watches = ws } ≡ k → c ≡ c' → Works node probes c' given t u a b
      → Works node probes c given k.tape u a b
  kept_works k t u ws c c' given a b is_k is_c works =
      subst (λ (v : Kept). Works node probes c given v.tape u a b) is_k (subst (λ (d : Command). Works node probes d given t u a b) (sym is_c) works)

-- a command on a tape keeps its scenario, and so what is known of its branch
pub kept_same : (probes : ℕ) (s : Scenario) (k : Kept) (t u : Tape) (ws : List (Option Cond)) → record { tape = t; watches = ws } ≡ k → u.scenario ≡ t.scenario → IsKept probes s k
    → IsKept probes s (record { tape = u; watches = ws })
kept_same probes s k t u ws is_k same h = record {
  scenario = same ∙ ap (λ v. v.tape.scenario) is_k ∙ h.scenario;
  checked = subst (λ (v : Kept). AreChecked s.setup.hosts probes v.watches) (sym is_k) h.checked;
}

-- nothing hinders a branch of the first events of another
branch_free : {State Msg : Type 0} (r : Rules State Msg) (ks : List Kept) (d : Kept) (b p : ℕ) → b < length ks → p ≤ length (get_or ks b d).tape.events → length ks < 64
    → refusal_of r (command.Branch b p) (all_shown ks) ≡ None
branch_free r ks d b p there within few =
    let book : Book = all_shown ks in
    let x_is : branch b book ≡ shown (get_or ks b d) = get_or-map shown ks b d empty_branch there in
    let count : length book ≡ length ks = length-map ks shown in
    let here : nat_le (length book) b ≡ false = grind (arith, nat_tests) in
    let events : length (branch b book).events ≡ length (get_or ks b d).tape.events = ap (λ (x : Branch). length x.events) x_is in
    let far : nat_lt (length (branch b book).events) p ≡ false = le-ltb (length (branch b book).events) p (omega arith) in
    let room : nat_le 64 (length book) ≡ false = grind (arith, nat_tests) in
    ap (λ t. if t then Some refusal.UnknownBranch else if nat_lt (length (branch b book).events) p then Some refusal.TooFar else if nat_le 64 (length book) then Some refusal.BranchesFull else None) here
    ∙ ap (λ t. if t then Some refusal.TooFar else if nat_le 64 (length book) then Some refusal.BranchesFull else None) far
    ∙ ap (λ t. if t then Some refusal.BranchesFull else None) room

pub branch_wants : {State Msg : Type 0} (r : Rules State Msg) (ks : List Kept) (d : Kept) (b p : ℕ) → b < length ks → p ≤ length (get_or ks b d).tape.events → length ks < 64
    → IsTurn r (all_shown ks) (command.Branch b p) (reply.Refused refusal.NoMemory) (all_shown ks)
branch_wants r ks d b p there within few =
    inr (refl, subst (λ (o : Option Refusal). IsTrue (leaves_room_for_want o)) (sym (branch_free r ks d b p there within few)) refl, refl, refl)

-- a branch of the first events of another is made
pub branch_made : {State Msg : Type 0} (r : Rules State Msg) (ks : List Kept) (k d : Kept) (b p n : ℕ) → b < length ks → p ≤ length (get_or ks b d).tape.events → length ks < 64 → n ≡ length ks
    → shown k ≡ record empty_branch { events = take p (get_or ks b d).tape.events; place = p } → IsTurn r (all_shown ks) (command.Branch b p) (reply.Made n) (all_shown (ks ++ k ∷ []))
branch_made r ks k d b p n there within few number is =
    let book : Book = all_shown ks in
    let c : Command = command.Branch b p in
    let x_is : branch b book ≡ shown (get_or ks b d) = get_or-map shown ks b d empty_branch there in
    let count : length book ≡ length ks = length-map ks shown in
    let free : refusal_of r c book ≡ None = branch_free r ks d b p there within few in
    inl (
      ap reply.Made (number ∙ sym count) ∙ sym (ap (λ o. answer_by r o c book) free),
      map-append shown ks (k ∷ []) ∙ ap (λ xs. xs ++ shown k ∷ []) (sym (set-get_or book b empty_branch))
          ∙ ap (λ y. with_branch b (branch b book) book ++ y ∷ []) (is ∙ ap (λ (z : Branch). record empty_branch { events = take p z.events; place = p }) (sym x_is))
          ∙ sym (ap (λ o. after_by r o c book) free),
    )
