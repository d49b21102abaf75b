-- The world of a branch, and the two ways there and back.
use Rattle.std.proofs.Common.{◌≡◌, ℕ, ◌+◌, ◌-◌, ◌<◌, ◌≤◌, Bool, true, false, List, [], ◌∷◌, ◌++◌, Option, Some, None, inl, inr, length, take, set, get_or, nat_le, nat_lt, refl, sym, ap, ◌∙◌, subst, arith}
use Rattle.std.specs.Prelude.{if◌then◌else◌}
use Rattle.std.specs.Option.{unwrap_or, option_map, IsSome}
use Rattle.std.proofs.lemmas.Option.{slice_get-get_or, slice_get_cases}
use Rattle.std.proofs.lemmas.List.Elements.{All-set, All-push}
use Rattle.std.proofs.lemmas.Bool.{le-ltb}
use Rattle.std.proofs.lemmas.Bool.Decides.{nat_tests}
use Rattle.std.proofs.lemmas.List.{append-nil, length-set, get_or-set_same, get_or-map, map-set, map-append, take-append-le}
use Rattle.sim_node.specs.Node.{NodeLaws}
use Rattle.sim_events.specs.Scenario.{Scenario}
use Rattle.sim_world.specs.World.{World}
use Rattle.sim_events.specs.declared.Event.{Event}
use Rattle.sim_events.specs.declared.Event.TheVariants as event
use Rattle.sim_events.specs.Faults.{hosts_of}
use Rattle.sim_world.specs.Events.{Rules, rules, run, start}
use Rattle.sim_moves.proofs.Placing.{run-front}
use Rattle.sim_watch.specs.declared.command.Command.{Command}
use Rattle.sim_watch.specs.declared.command.Command.TheVariants as command
use Rattle.sim_book.specs.declared.Refusal.{Refusal}
use Rattle.sim_book.specs.declared.Refusal.TheVariants as refusal
use Rattle.sim_book.specs.Kept.{Kept, shown, all_shown}
use Rattle.sim_runs.specs.Branch.{Branch, at_place, with_events}
use Rattle.sim_book.specs.Book.{Book, IsBranch, branch, with_branch, empty_branch}
use Rattle.sim_watch.specs.Commands.{branch_of, makes_branch}
use Rattle.sim_book.specs.Answer.{Check, first_refusal, later_checks, unknown_host, same_host, not_at_end, events_full, idle, refusal_of, branch_after, after_by, after}
use Rattle.sim_book.specs.Headline.{is_warm, world_by_run, IsWorldOf, AreBranches, HasWorlds, BackAfterEvent, ForwardAfterBack}
use Rattle.sim_book.specs.BookOf.{AllKept}
use Rattle.sim_book.proofs.Books.{made_none}

pub first_free : (t : Bool) (why : Refusal) (rest : List Check) → first_refusal ((t, why) ∷ rest) ≡ None → (t ≡ false) × (first_refusal rest ≡ None)
first_free true why rest e = absurd cc
first_free false why rest e = (refl, e)

there_is : (n b : ℕ) → nat_le n b ≡ false → b < n
there_is n b e = grind (arith, nat_tests)

pub not_less : (m n : ℕ) → nat_lt m n ≡ false → n ≤ m
not_less m n e = grind (arith, nat_tests)

module _ {State Msg : Type 0} (r : Rules State Msg) where
  pub some_is : (o : Option (World State Msg)) (w : World State Msg) → IsSome o → o ≡ Some (unwrap_or o w)
  some_is None w h = absurd (let e : false ≡ true = h in cc)
  some_is (Some x) w h = refl

  -- each of the first events of a branch leads to a world
  pub has_worlds : (book : Book) → AreBranches r book → HasWorlds r book
  has_worlds book all i d there p within = some_is (run r (take p (get_or book i d).events)) (start r) (run-front r p (get_or book i d).events (all i d there).runnable)

  after_set : (c : Command) (book : Book) → makes_branch c ≡ false → refusal_of r c book ≡ None
      → after r book c ≡ set book (branch_of c) (branch_after r c (branch (branch_of c) book))
  after_set c book plain free =
      let new : Book = with_branch (branch_of c) (branch_after r c (branch (branch_of c) book)) book in
      ap (λ o. after_by r o c book) free
      ∙ ap (λ made. new ++ made) (made_none r c (branch (branch_of c) book) plain)
      ∙ append-nil new

  pub inside : (c : Command) (book : Book) → refusal_of r c book ≡ None → branch_of c < length book
  inside c book free =
      there_is (length book) (branch_of c)
      (first_free (nat_le (length book) (branch_of c)) refusal.UnknownBranch (later_checks r book (branch (branch_of c) book) c) free).0

  pub later_free : (c : Command) (book : Book) → refusal_of r c book ≡ None → first_refusal (later_checks r book (branch (branch_of c) book) c) ≡ None
  later_free c book free =
      (first_free (nat_le (length book) (branch_of c)) refusal.UnknownBranch (later_checks r book (branch (branch_of c) book) c) free).1

  back_free : (book : Book) (b n : ℕ) → b < length book → n ≤ (branch b book).place → refusal_of r (command.Back b n) book ≡ None
  back_free book b n there within =
      let here : nat_le (length book) b ≡ false = grind (arith, nat_tests) in
      let near : nat_lt (branch b book).place n ≡ false = le-ltb (branch b book).place n within in
      ap (λ t. if t then Some refusal.UnknownBranch else if nat_lt (branch b book).place n then Some refusal.TooFar else None) here
      ∙ ap (λ t. if t then Some refusal.TooFar else None) near

  forward_free : (book : Book) (b n : ℕ) → b < length book → (branch b book).place + n ≤ length (branch b book).events → refusal_of r (command.Forward b n) book ≡ None
  forward_free book b n there within =
      let here : nat_le (length book) b ≡ false = grind (arith, nat_tests) in
      let near : nat_lt (length (branch b book).events) ((branch b book).place + n) ≡ false = le-ltb (length (branch b book).events) ((branch b book).place + n) within in
      ap (λ t. if t then Some refusal.UnknownBranch else if nat_lt (length (branch b book).events) ((branch b book).place + n) then Some refusal.TooFar else None) here
      ∙ ap (λ t. if t then Some refusal.TooFar else None) near

  step_back : (book : Book) (b : ℕ) (e : Event) → b < length book → (branch b book).place ≡ length (branch b book).events
      → world_by_run r (branch b (after r (set book b (with_events (e ∷ []) (branch b book))) (command.Back b 1))) ≡ world_by_run r (branch b book)
  step_back book b e there end =
      let x : Branch = branch b book in
      let y : Branch = with_events (e ∷ []) x in
      let book' : Book = set book b y in
      let there' : b < length book' = omega (arith, there, length-set book b y) in
      let y_is : branch b book' ≡ y = get_or-set_same book b y empty_branch there in
      let y_place : (branch b book').place ≡ length x.events + 1 = ap (λ (z : Branch). z.place) y_is in
      let done = after_set (command.Back b 1) book' refl (back_free book' b 1 there' (omega (arith, y_place))) in
      let z_is : branch b (after r book' (command.Back b 1)) ≡ at_place (length x.events + 1 - 1) y =
      ap (branch b) done ∙ get_or-set_same book' b (at_place ((branch b book').place - 1) (branch b book')) empty_branch there' ∙ ap (λ (w : Branch). at_place (w.place - 1) w) y_is in
      let n : length x.events + 1 - 1 ≡ x.place = omega (arith, end) in
      ap (world_by_run r) z_is ∙ ap (λ (k : ℕ). run r (take k (x.events ++ e ∷ []))) n ∙ ap (run r) (take-append-le x.place x.events (e ∷ []) (omega (arith, end)))

  at_end : (x : Branch) (rest : List Check) → x.place ≤ length x.events → first_refusal (not_at_end r x ∷ rest) ≡ None → x.place ≡ length x.events
  at_end x rest within free =
      let past = not_less x.place (length x.events) (first_free (nat_lt x.place (length x.events)) refusal.NotAtEnd rest free).0 in
      omega (arith, past, within)

  pub back_after_event : (book : Book) → AreBranches r book → BackAfterEvent r book
  back_after_event book all (command.Step b) one free =
      let x : Branch = branch b book in
      let there = inside (command.Step b) book free in
      let end = at_end x (events_full r x ∷ idle r x ∷ []) (all b empty_branch there).within (later_free (command.Step b) book free) in
      ap (λ (m : Book). world_by_run r (branch b (after r m (command.Back b 1)))) (after_set (command.Step b) book refl free) ∙ step_back book b event.Step there end
  back_after_event book all (command.Fault b f) one free =
      let x : Branch = branch b book in
      let there = inside (command.Fault b f) book free in
      let rest : List Check = not_at_end r x ∷ events_full r x ∷ [] in
      let known = (first_free (unknown_host r (hosts_of f)).0 refusal.UnknownHost (same_host r (hosts_of f) ∷ rest) (later_free (command.Fault b f) book free)).1 in
      let two = (first_free (same_host r (hosts_of f)).0 refusal.SameHost rest known).1 in
      let end = at_end x (events_full r x ∷ []) (all b empty_branch there).within two in
      ap (λ (m : Book). world_by_run r (branch b (after r m (command.Back b 1)))) (after_set (command.Fault b f) book refl free) ∙ step_back book b (event.Fault f) there end
  back_after_event book all (command.Tick b) one free = absurd cc
  back_after_event book all (command.Run b n) one free = absurd cc
  back_after_event book all (command.Back b n) one free = absurd cc
  back_after_event book all (command.Forward b n) one free = absurd cc
  back_after_event book all (command.Goto b p) one free = absurd cc
  back_after_event book all (command.Rewind b n) one free = absurd cc
  back_after_event book all (command.Cut b) one free = absurd cc
  back_after_event book all (command.Branch b p) one free = absurd cc
  back_after_event book all (command.Watch b k) one free = absurd cc
  back_after_event book all (command.Unwatch b w) one free = absurd cc
  back_after_event book all (command.Look b q) one free = absurd cc
  back_after_event book all (command.Freeze b) one free = absurd cc

  pub forward_after_back : (book : Book) → AreBranches r book → ForwardAfterBack r book
  forward_after_back book all b n free =
      let x : Branch = branch b book in
      let c = command.Back b n in
      let there = inside c book free in
      let far = not_less x.place n (first_free (nat_lt x.place n) refusal.TooFar [] (later_free c book free)).0 in
      let y : Branch = at_place (x.place - n) x in
      let book' : Book = set book b y in
      let there' : b < length book' = omega (arith, there, length-set book b y) in
      let y_is : branch b book' ≡ y = get_or-set_same book b y empty_branch there in
      let same : x.place - n + n ≡ x.place = omega (arith, far) in
      let within = (all b empty_branch there).within in
      let y_place : (branch b book').place ≡ x.place - n = ap (λ (z : Branch). z.place) y_is in
      let y_events : length (branch b book').events ≡ length x.events = ap (λ (z : Branch). length z.events) y_is in
      let done = after_set (command.Forward b n) book' refl (forward_free book' b n there' (omega (arith, y_place, y_events, same, within))) in
      let z_is : branch b (after r book' (command.Forward b n)) ≡ at_place (x.place - n + n) y =
      ap (branch b) done ∙ get_or-set_same book' b (at_place ((branch b book').place + n) (branch b book')) empty_branch there' ∙ ap (λ (w : Branch). at_place (w.place + n) w) y_is in
      ap (λ (m : Book). world_by_run r (branch b (after r m (command.Forward b n)))) (after_set c book refl free)
      ∙ ap (world_by_run r) z_is ∙ ap (λ (k : ℕ). run r (take k x.events)) same

-- whether the tape of a branch is warm, which is there or is not
pub is_warm_at : (ks : List Kept) (b : ℕ) (k : Kept) → b < length ks → k ≡ get_or ks b k → is_warm b ks ≡ k.tape.warm
is_warm_at ks b k there at =
    ap (λ (o : Option Kept). unwrap_or (option_map (λ x. x.tape.warm) o) false) (slice_get-get_or ks b k there) ∙ ap (λ (x : Kept). x.tape.warm) (sym at)

pub is_warm_past : (ks : List Kept) (b : ℕ) → length ks ≤ b → is_warm b ks ≡ false
is_warm_past ks b past = elim (slice_get_cases ks b).1 [
  | inl x ↦ absurd (omega (arith, x.1, past))
  | inr x ↦ ap (λ (o : Option Kept). unwrap_or (option_map (λ k. k.tape.warm) o) false) x.1
]

pub scenario_at : (probes : ℕ) (s : Scenario) (ks : List Kept) (b : ℕ) (k : Kept) → b < length ks → k ≡ get_or ks b k → AllKept probes s ks → k.tape.scenario ≡ s
scenario_at probes s ks b k there at all = ap (λ (x : Kept). x.tape.scenario) at ∙ (all b k there).scenario

-- the place of a branch is that of its tape
pub place_at : (ks : List Kept) (b : ℕ) (k : Kept) → b < length ks → k ≡ get_or ks b k → (branch b (all_shown ks)).place ≡ k.tape.place
place_at ks b k there at =
    ap (λ (x : Branch). x.place) (get_or-map shown ks b k empty_branch there) ∙ ap (λ (x : Kept). x.tape.place) (sym at)

module _ {State Msg : Type 0} (node : NodeLaws State Msg) (probes : ℕ) (s : Scenario) where
  -- the world of a tape is that of its branch
  pub headline_at : (ks : List Kept) (b : ℕ) (k : Kept) (w : World State Msg) → b < length ks → k ≡ get_or ks b k → AllKept probes s ks
      → run (rules node probes k.tape.scenario) (take k.tape.place k.tape.events) ≡ Some w → IsWorldOf (rules node probes s) (branch b (all_shown ks)) w
  headline_at ks b k w there at all is =
      let x_is : branch b (all_shown ks) ≡ shown k = get_or-map shown ks b k empty_branch there ∙ ap shown (sym at) in
      subst (λ (x : Branch). IsWorldOf (rules node probes s) x w) (sym x_is)
      (subst (λ (z : Scenario). run (rules node probes z) (take k.tape.place k.tape.events) ≡ Some w) (scenario_at probes s ks b k there at all) is)

  -- one branch changes, and one is added
  pub branches_set : (ks : List Kept) (b : ℕ) (k : Kept) → k.tape.scenario ≡ s → IsBranch (rules node probes k.tape.scenario) (shown k)
      → AreBranches (rules node probes s) (all_shown ks) → AreBranches (rules node probes s) (all_shown (set ks b k))
  branches_set ks b k same one all =
      let r = rules node probes s in
      subst (λ (book : Book). AreBranches r book) (sym (map-set shown ks b k))
      (All-set (IsBranch r) (all_shown ks) b (shown k) (subst (λ (z : Scenario). IsBranch (rules node probes z) (shown k)) same one) all)

  pub branches_push : (ks : List Kept) (k : Kept) → k.tape.scenario ≡ s → IsBranch (rules node probes k.tape.scenario) (shown k)
      → AreBranches (rules node probes s) (all_shown ks) → AreBranches (rules node probes s) (all_shown (ks ++ k ∷ []))
  branches_push ks k same one all =
      let r = rules node probes s in
      subst (λ (book : Book). AreBranches r book) (sym (map-append shown ks (k ∷ [])))
      (All-push (IsBranch r) (all_shown ks) (shown k) all (subst (λ (z : Scenario). IsBranch (rules node probes z) (shown k)) same one))
