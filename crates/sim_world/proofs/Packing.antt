-- Worlds that are kept for later, and their hosts without disks.
use Rattle.std.specs.Prelude.{◌≡◌, ℕ, zero, suc, ◌+◌, ◌<◌, ◌≤◌, List, [], ◌∷◌, ◌++◌, length, map, take, Option, Some, refl}
use Rattle.std.specs.List.{slice_get}
use Rattle.std.proofs.Common.{sym, ap, subst, ◌∙◌, arith}
use Rattle.std.proofs.lemmas.Option.{slice_get_within}
use Rattle.std.proofs.lemmas.List.{map-append, length-map, length-take-le}
use Rattle.sim_disk.specs.Disk.{Disk}
use Rattle.sim_links.specs.Link.{Links}
use Rattle.sim_queue.specs.Pending.{Pending}
use Rattle.sim_world.specs.declared.host.Host.{Host}
use Rattle.sim_world.specs.declared.packed_hosts.KeptHost.{KeptHost}
use Rattle.sim_pending.specs.Occurrence.{Occurrence}
use Rattle.sim_events.specs.Scenario.{Scenario}
use Rattle.sim_world.specs.World.{World}
use Rattle.sim_world.specs.inside.Index.{IsIndex}
use Rattle.sim_world.specs.Records.{InHand}
use Rattle.sim_world.specs.inside.Held.{Held, IsHeld, in_hand}
use Rattle.sim_world.specs.inside.Packed.{HostsInHand, hosts_in, timers_in, others_in, IsPacked}
use Rattle.sim_world.specs.inside.Sound.{IsSound}
use Rattle.sim_world.proofs.Copying.{index-of-same}

-- the host of a kept one and a disk
abbrev pub with_disk : {State : Type 0} → KeptHost State → Disk → Host State
with_disk k d = record { node = k.node; disk = d; done = k.done }

-- one more
pub hosts-more : {State : Type 0} (kept : List (KeptHost State)) (disks : List Disk) (k : KeptHost State) (d : Disk)
    → length disks ≡ length kept → hosts_in (kept ++ k ∷ []) (disks ++ d ∷ []) ≡ hosts_in kept disks ++ with_disk k d ∷ []
hosts-more [] [] k d e = refl
hosts-more [] (x ∷ disks) k d e = absurd (omega arith)
hosts-more (x ∷ kept) [] k d e = absurd (omega arith)
hosts-more (x ∷ kept) (y ∷ disks) k d e = ap (λ hosts. with_disk x y ∷ hosts) (hosts-more kept disks k d (omega arith))

-- the one at a place
pub hosts-at : {State : Type 0} (kept : List (KeptHost State)) (disks : List Disk) (i : ℕ) (k : KeptHost State) (d : Disk)
    → slice_get kept i ≡ Some k → slice_get disks i ≡ Some d → slice_get (hosts_in kept disks) i ≡ Some (with_disk k d)
hosts-at (x ∷ kept) (y ∷ disks) zero k d e f =
    let kept_is : x ≡ k = cc e in
    let disk_is : y ≡ d = cc f in
    ap (λ z. Some (with_disk z y)) kept_is ∙ ap (λ z. Some (with_disk k z)) disk_is
hosts-at (x ∷ kept) (y ∷ disks) (suc i) k d e f = hosts-at kept disks i k d e f
hosts-at {State} [] disks i k d e f = let within : i < 0 = slice_get_within {A = KeptHost State} [] i k e in absurd (omega arith)
hosts-at (x ∷ kept) [] i k d e f = let within : i < 0 = slice_get_within {A = Disk} [] i d f in absurd (omega arith)

-- how many there are
pub hosts-count : {State : Type 0} (kept : List (KeptHost State)) (disks : List Disk) → length disks ≡ length kept
    → length (hosts_in kept disks) ≡ length kept
hosts-count [] disks e = refl
hosts-count (x ∷ kept) [] e = absurd (omega arith)
hosts-count (x ∷ kept) (y ∷ disks) e = ap suc (hosts-count kept disks (omega arith))

-- a host is kept without its disk, behind those before it
pub kept-more : {State : Type 0} (hosts : List (Host State)) (i : ℕ) (host : Host State) (kept : List (KeptHost State)) (k : KeptHost State)
    → hosts_in kept (map (λ h. h.disk) (take i hosts)) ≡ take i hosts → length kept ≡ i → i ≤ length hosts
    → take (i + 1) hosts ≡ take i hosts ++ host ∷ [] → with_disk k host.disk ≡ host
    → hosts_in (kept ++ k ∷ []) (map (λ h. h.disk) (take (i + 1) hosts)) ≡ take (i + 1) hosts
kept-more {State} hosts i host kept k so_far count within more same =
    let disk : Host State → Disk = λ h. h.disk in
    let disks : map disk (take (i + 1) hosts) ≡ map disk (take i hosts) ++ host.disk ∷ [] = ap (map disk) more ∙ map-append disk (take i hosts) (host ∷ []) in
    let as_many : length (map disk (take i hosts)) ≡ length kept = length-map (take i hosts) disk ∙ (length-take-le i hosts within ∙ sym count) in
    ap (hosts_in (kept ++ k ∷ [])) disks
    ∙ (hosts-more kept (map disk (take i hosts)) k host.disk as_many
    ∙ (ap (λ hs. hs ++ with_disk k host.disk ∷ []) so_far
    ∙ (ap (λ h. take i hosts ++ h ∷ []) same ∙ sym more)))

-- what is kept of a world in hand is that of a world of a run
pub packed-same : {State Msg : Type 0} (told : State → ℕ) (k : Held State Msg) (key : List ℕ) (flying waiting : ℕ) (serials : List (Option ℕ)) (numbers : List ℕ)
    (kept : InHand State Msg) → IsHeld told k → kept ≡ in_hand k → key ≡ k.parts.seed → flying ≡ k.index.in_flight → waiting ≡ k.index.held
    → serials ≡ k.index.timers.items → numbers ≡ k.index.others.items → IsPacked told key flying waiting serials numbers kept
packed-same told k key flying waiting serials numbers kept is same words fly held timers others =
    subst (λ x. IsPacked told key flying waiting serials numbers x) (sym same) (record {
      sound = is.sound;
      index = index-of-same k.index flying waiting serials numbers k.parts.world is.index fly held timers others;
      seed = words ∙ is.seed;
    })

-- hosts that are kept are those that were given, and so are their timers, and their numbers of starts and syncs
pub hosts-same : {State : Type 0} (kept : List (KeptHost State)) (disks : List Disk) (hosts : List (Host State)) (timers : List (Option ℕ)) (others : List ℕ)
    → disks ≡ map (λ h. h.disk) hosts → hosts_in kept (map (λ h. h.disk) hosts) ≡ hosts → timers_in kept ≡ timers → others_in kept ≡ others
    → ◌≡◌ {A = HostsInHand State} (record { hosts = hosts_in kept disks; timers = timers_in kept; others = others_in kept }) (record { hosts = hosts; timers = timers; others = others })
hosts-same kept disks hosts timers others same all serials numbers =
    ap (λ hs. record { hosts = hs; timers = timers_in kept; others = others_in kept }) (ap (hosts_in kept) same ∙ all)
    ∙ (ap (λ ts. record { hosts = hosts; timers = ts; others = others_in kept }) serials
    ∙ ap (λ ns. record { hosts = hosts; timers = timers; others = ns }) numbers)

-- a world of equal parts
pub world-same : {State Msg : Type 0} (clock : ℕ) (places places₁ : List ℕ) (queue queue₁ : Pending (Occurrence Msg)) (links links₁ : Links Msg)
    (hosts hosts₁ : List (Host State)) → places ≡ places₁ → queue ≡ queue₁ → links ≡ links₁ → hosts ≡ hosts₁
    → ◌≡◌ {A = World State Msg} (record { clock = clock; places = places; queue = queue; links = links; hosts = hosts })
    (record { clock = clock; places = places₁; queue = queue₁; links = links₁; hosts = hosts₁ })
world-same clock places places₁ queue queue₁ links links₁ hosts hosts₁ p q l h = cc

-- an equal world in hand, of a world and a scenario
pub hand-same : {State Msg : Type 0} (old now : InHand State Msg) (w : World State Msg) (s : Scenario) → old ≡ now → w ≡ old.world → s ≡ old.scenario
    → ◌≡◌ {A = InHand State Msg} (record { world = w; scenario = s; age = old.age }) now
hand-same old now w s e world scenario =
    ap (λ x. record { world = x; scenario = s; age = old.age }) world ∙ (ap (λ x. record { world = old.world; scenario = x; age = old.age }) scenario ∙ e)

-- what is opened of a world that is kept is one of a run, with no effects
pub opened-held : {State Msg : Type 0} (told : State → ℕ) (old now : InHand State Msg) (key : List ℕ) (flying waiting : ℕ) (serials : List (Option ℕ)) (numbers : List ℕ)
    (k : Held State Msg) → IsPacked told key flying waiting serials numbers old → old ≡ now → k.parts.world ≡ now.world → k.parts.seed ≡ now.scenario.seed
    → IsIndex k.index now.world → k.effects ≡ record { hosts = old.scenario.setup.hosts; list = [] } → k.scenario ≡ old.scenario → k.age ≡ old.age
    → IsHeld told k
opened-held told old now key flying waiting serials numbers k is same world seed index effects scenario age = record {
  sound = subst (λ s. IsSound told s k.age k.parts.world) (sym scenario)
      (subst (λ a. IsSound told old.scenario a k.parts.world) (sym age)
      (subst (λ w. IsSound told old.scenario old.age w) (ap (λ h. h.world) same ∙ sym world) is.sound));
  index = subst (λ w. IsIndex k.index w) (sym world) index;
  seed = seed ∙ sym (ap (λ (s : Scenario). s.seed) (scenario ∙ ap (λ h. h.scenario) same));
  effects = effects ∙ ap (λ (s : Scenario). record { hosts = s.setup.hosts; list = [] }) (sym scenario);
}
