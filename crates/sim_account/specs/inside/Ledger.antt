-- The numbers that decide the fates of effects, followed without carrying the effects out.
use Rattle.std.specs.Prelude.{◌≡◌, ℕ, ◌+◌, ◌*◌, ◌<◌, ◌≤◌, ◌^◌, length}
use Rattle.sim_streams.specs.Word.{network}
use Rattle.sim_queue.specs.declared.Item.{Item}
use Rattle.sim_links.specs.Link.{link}
use Rattle.sim_disk.specs.Disk as disk
use Rattle.sim_pending.specs.Occurrence.{Occurrence}
use Rattle.sim_world.specs.World.{World, host_at, place, in_flight, held_messages}
use Rattle.sim_world.specs.Events.{begun}
use Rattle.sim_account.specs.declared.ledger.Ledger.{Ledger}

-- the ledger at the start of the reaction to an occurrence, which is no longer pending then
abbrev pub ledger_of : {State Msg : Type 0} → Item (Occurrence Msg) → World State Msg → Ledger
ledger_of x w = record {
  clock = x.due;
  words = 0;
  serial = w.queue.next_serial;
  messages = in_flight (begun x w) + held_messages w;
  unasked = disk.not_asked (host_at x.body.host w).disk;
}

-- A ledger follows a world that the effects of a reaction of host h, at a time, made from `base`.
pub record Follows {State Msg : Type 0} (l : Ledger) (h : ℕ) (base w : World State Msg) : Type 0
  where
    pub clock : w.clock ≡ l.clock
    pub words : place network w ≡ place network base + l.words
    pub serial : w.queue.next_serial ≡ l.serial
    pub messages : in_flight w + held_messages w ≡ l.messages
    pub unasked : disk.not_asked (host_at h w).disk ≡ l.unasked
    pub covered : (host_at h w).disk.asked ≤ length (host_at h w).disk.writes
    pub states : (a b : ℕ) → (link a b w.links).state ≡ (link a b base.links).state
    pub links : length w.links ≡ 1024
    pub places : length w.places ≡ 34
    pub host : h < length w.hosts

-- The numbers of a ledger have room for `left` more effects, of at most 40. A message takes two
-- words.
pub record HasRoomFor (left : ℕ) (l : Ledger) : Type 0 where
  pub clock : l.clock < 2 ^ 40
  pub words : l.words + 2 * left ≤ 2 * 40
  pub serial : l.serial + left ≤ 2 ^ 40
  pub messages : l.messages ≤ 4096
  pub unasked : l.unasked + left ≤ 2 ^ 24
