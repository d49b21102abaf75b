-- The start is sound.
use Rattle.std.specs.Prelude.{◌≡◌, ℕ, zero, suc, ◌+◌, ◌<◌, ◌≤◌, false, cond, [], length, map, replicate, Some}
use Rattle.std.specs.List.{count_by, sum_by}
use Rattle.std.proofs.Common.{refl, sym, ap, ◌∙◌, subst, arith}
use Rattle.std.proofs.lemmas.List.{length-replicate, length-map}
use Rattle.sim_queue.specs.declared.Item.{Item}
use Rattle.sim_queue.specs.Pending.{Rise}
use Rattle.sim_links.specs.Link.{Link, open_link}
use Rattle.sim_disk.specs.Disk as disk
use Rattle.sim_node.specs.Numbers.{numbers_from}
use Rattle.sim_world.specs.declared.host.Host.{Host}
use Rattle.sim_pending.specs.Occurrence.{Body, Occurrence, is_message}
use Rattle.sim_world.specs.World.{stopped, host_at, place}
use Rattle.sim_world.specs.Events.{Rules, start}
use Rattle.sim_events.specs.Limits.{IsScenario}
use Rattle.sim_world.specs.inside.Sound.{AllDueBy, NoneLate, covers, IsSound}
use Rattle.sim_world.proofs.Counts.{sum_by-replicate_none, sum_by-map_none, get_or-replicate_zero, length-numbers_from, each-numbers}
use Rattle.sim_world.proofs.Bodies.{covers_none}
use Rattle.sim_world.proofs.Holds.{HostHolds}

-- the start of a host
abbrev pub starts : (Msg : Type 0) → ℕ → Item (Occurrence Msg)
starts Msg h = record { due = 0; serial = h; body = record { host = h; body = Body.Start } }

rise_starts : (Msg : Type 0) (lo n : ℕ) → Rise lo (map (starts Msg) (numbers_from lo n)) (lo + n)
rise_starts Msg lo zero = omega arith
rise_starts Msg lo (suc n) =
    let e : lo + 1 + n ≡ lo + suc n = omega arith in
    (omega arith, subst (λ b. Rise (lo + 1) (map (starts Msg) (numbers_from (lo + 1) n)) b) e (rise_starts Msg (lo + 1) n))

due_starts : (Msg : Type 0) (hosts lo n : ℕ) → lo + n ≤ hosts → AllDueBy hosts 0 (map (starts Msg) (numbers_from lo n))
due_starts Msg hosts lo zero le = tt
due_starts Msg hosts lo (suc n) le = (record { due = omega arith; host = omega arith; sender = tt }, due_starts Msg hosts (lo + 1) n (omega arith))

late_starts : (Msg : Type 0) (lo n : ℕ) → NoneLate 0 (map (starts Msg) (numbers_from lo n))
late_starts Msg lo zero = tt
late_starts Msg lo (suc n) = (omega arith, late_starts Msg (lo + 1) n)

-- The start is sound, where each host that is booted was told of the number of hosts.
pub sound_start : {State Msg : Type 0} (told : State → ℕ) (r : Rules State Msg)
    → IsScenario r.scenario → ((h : ℕ) → h < r.scenario.setup.hosts → told (r.node.boot r.scenario.setup h []) ≡ r.scenario.setup.hosts)
    → IsSound told r.scenario 0 (start r)
sound_start {State} {Msg} told r limits boots =
    let n : ℕ = r.scenario.setup.hosts in
    let booted : ℕ → Host State = λ h. record { node = Some (r.node.boot r.scenario.setup h []); disk = disk.empty_disk; done = false } in
    let each : (h : ℕ) → HostHolds told r.scenario.setup 0 (host_at h (start r)) =
    each-numbers (λ (x : Host State). HostHolds told r.scenario.setup 0 x) booted stopped 0 n
    (record { writes = omega arith; covered = omega arith; quiet = λ e. refl; knows = λ node e. cc })
    (λ h lt. record { writes = omega arith; covered = omega arith; quiet = λ e. refl; knows = λ node e. let f : node ≡ r.node.boot r.scenario.setup h [] = cc in ap told f ∙ boots h (omega arith) }) in
    let none_asked : (h : ℕ) → (host_at h (start r)).disk.asked ≡ 0 = each-numbers (λ (x : Host State). x.disk.asked ≡ 0) booted stopped 0 n refl (λ h lt. refl) in
    let most : n ≤ 32 = limits.setup.hosts in
    let none_in_flight : count_by is_message (map (starts Msg) (numbers_from 0 n)) ≡ 0 = sum_by-map_none (λ (x : Item (Occurrence Msg)). cond (is_message x) 1 0) (starts Msg) (λ h. refl) (numbers_from 0 n) in
    let none_held : sum_by (λ (l : Link Msg). length l.held) (replicate 1024 open_link) ≡ 0 = sum_by-replicate_none (λ (l : Link Msg). length l.held) 1024 open_link refl in
    record {
      scenario = limits;
      young = omega arith;
      places = length-replicate {A = ℕ} 34 0;
      links = length-replicate 1024 (open_link {M = Msg});
      hosts = length-map (numbers_from 0 n) booted ∙ length-numbers_from 0 n;
      queue = subst (λ b. Rise 0 (map (starts Msg) (numbers_from 0 n)) b) (let e : 0 + n ≡ n = omega arith in e) (rise_starts Msg 0 n);
      clock = omega arith;
      due = due_starts Msg n 0 n (omega arith);
      late = late_starts Msg 0 n;
      serials = omega arith;
      words = λ stream. (let e : place stream (start r) ≡ 0 = get_or-replicate_zero 34 stream in omega arith);
      few = omega arith;
      writes = λ h. (each h).writes;
      asked = λ h. sum_by-map_none (covers h) (starts Msg) (λ i. covers_none h (starts Msg i) refl) (numbers_from 0 n) ∙ sym (none_asked h);
      covered = λ h. (each h).covered;
      quiet = λ h e. (each h).quiet e;
      knows = λ h node e. (each h).knows node e;
    }
