-- Nodes at places.
use Rattle.std.proofs.Common.{◌≡◌, ◌≢◌, ℕ, zero, suc, ◌^◌, ◌<◌, ◌≤◌, List, [], ◌∷◌, ◌++◌, take, drop, refl, sym, ap, ◌∙◌, subst, arith, length, inl, inr, ⊎_elim}
use Rattle.std.proofs.Math.ListN.{get_or, set, length-set}
use Rattle.std.proofs.lemmas.Bool.{cases_eq, cases_lt}
use Rattle.std.proofs.lemmas.List.{get_or-set_same, get_or-set_other, get_or_default, take_all, append-nil}
use Rattle.sim_queue.specs.declared.lists.Node.{Node}
use Rattle.sim_queue.specs.inside.Lists.{node, no_node, HasKey, IsLinked, IsLists}

pub node_past : (nodes : List Node) (i : ℕ) → length nodes ≤ i → node nodes i ≡ no_node
node_past [] i h = refl
node_past (x ∷ nodes) zero h = absurd (omega arith)
node_past (x ∷ nodes) (suc i) h = node_past nodes i (omega arith)

-- a node with a key is there
pub key_within : (nodes : List Node) (i : ℕ) → HasKey (node nodes i) → i < length nodes
key_within nodes i key = ⊎_elim
    (λ (lt : i < length nodes). lt)
    (λ (ge : length nodes ≤ i). let none : (node nodes i).serial ≡ 18446744073709551615 = ap (λ (x : Node). x.serial) (node_past nodes i ge) in absurd (omega arith))
    (cases_lt i (length nodes))

pub linked_within : (nodes : List Node) (i : ℕ) → IsLinked nodes i → i < length nodes
linked_within nodes i (inl e) = e.1
linked_within nodes i (inr key) = key_within nodes i key

-- and is no end
pub key_from : (w : ℕ) (nodes : List Node) (i : ℕ) → IsLists w nodes → HasKey (node nodes i) → 256 ≤ i
key_from w nodes i lists key = ⊎_elim
    (λ (lt : i < 256). let e : 2 ^ 40 ≤ (node nodes i).serial = lists.ends i lt in absurd (omega arith))
    (λ (ge : 256 ≤ i). ge)
    (cases_lt i 256)

-- what stands in a list and is no end has a key
pub linked_key : (nodes : List Node) (i : ℕ) → IsLinked nodes i → 256 ≤ i → HasKey (node nodes i)
linked_key nodes i (inl e) ge = let lt : i < 256 = e.0 in absurd (omega arith)
linked_key nodes i (inr key) ge = key

-- a node that is read
pub node_read : (nodes : List Node) (i : ℕ) (x : Node) → i < length nodes → x ≡ get_or nodes i x → node nodes i ≡ x
node_read nodes i x within read = get_or_default nodes i no_node x within ∙ sym read

pub node_set : (nodes : List Node) (i : ℕ) (x : Node) → i < length nodes → node (set nodes i x) i ≡ x
node_set nodes i x within = get_or-set_same nodes i x no_node within

pub node_other : (nodes : List Node) (i j : ℕ) (x : Node) → j ≢ i → node (set nodes i x) j ≡ node nodes j
node_other nodes i j x apart = get_or-set_other nodes i j x no_node apart

-- a node as code reads it out of a slice
abbrev pub read_at : List Node → ℕ → Node
read_at nodes i = get_or nodes i (record { due = 0; serial = 0; before = 0; after = 0 })

pub node_read_at : (old seen : List Node) (i : ℕ) → i < length old → seen ≡ old → node old i ≡ read_at seen i
node_read_at old seen i within value =
    get_or_default old i no_node (record { due = 0; serial = 0; before = 0; after = 0 }) within ∙ ap (λ (xs : List Node). read_at xs i) (sym value)

-- what a vector holds after its elements were written as a slice
past_end : {X : Type 0} (n : ℕ) (xs : List X) → length xs ≤ n → drop n xs ≡ []
past_end zero [] h = refl
past_end (suc n) [] h = refl
past_end zero (x ∷ xs) h = absurd (omega arith)
past_end (suc n) (x ∷ xs) h = past_end n xs (omega arith)

pub written_back : {X : Type 0} (old new : List X) (len : ℕ) → len ≡ length old → length new ≡ length old → take len (new ++ drop (length new) old) ≡ new
written_back old new len is size =
    ap (λ ys. take len (new ++ ys)) (past_end (length new) old (omega arith)) ∙ ap (λ ys. take len ys) (append-nil new) ∙ take_all len new (omega arith)

-- one node leads to another one behind it, and all else stays
pub record SetsAfter (old new : List Node) (i v : ℕ) : Type 0 where
  pub here : (node new i).after ≡ v
  pub others : (j : ℕ) → j ≢ i → node new j ≡ node old j
  pub before : (j : ℕ) → (node new j).before ≡ (node old j).before
  pub due : (j : ℕ) → (node new j).due ≡ (node old j).due
  pub serial : (j : ℕ) → (node new j).serial ≡ (node old j).serial
  pub size : length new ≡ length old

pub record SetsBefore (old new : List Node) (i v : ℕ) : Type 0 where
  pub here : (node new i).before ≡ v
  pub others : (j : ℕ) → j ≢ i → node new j ≡ node old j
  pub after : (j : ℕ) → (node new j).after ≡ (node old j).after
  pub due : (j : ℕ) → (node new j).due ≡ (node old j).due
  pub serial : (j : ℕ) → (node new j).serial ≡ (node old j).serial
  pub size : length new ≡ length old

stays : (X : Type 0) (f : Node → X) (old : List Node) (i j : ℕ) (x : Node) → i < length old → f x ≡ f (node old i) → f (node (set old i x) j) ≡ f (node old j)
stays X f old i j x within same = ⊎_elim
    (λ (e : j ≡ i). subst (λ (n : ℕ). f (node (set old i x) n) ≡ f (node old n)) (sym e) (ap (λ (y : Node). f y) (node_set old i x within) ∙ same))
    (λ (ne : j ≢ i). ap (λ (y : Node). f y) (node_other old i j x ne))
    (cases_eq j i)

sets_after_here : (old : List Node) (i v : ℕ) → i < length old → SetsAfter old (set old i (record (node old i) { after = v })) i v
sets_after_here old i v within = let x : Node = record (node old i) { after = v } in record {
  here = ap (λ (y : Node). y.after) (node_set old i x within);
  others = λ j ne. node_other old i j x ne;
  before = λ j. stays ℕ (λ (y : Node). y.before) old i j x within refl;
  due = λ j. stays ℕ (λ (y : Node). y.due) old i j x within refl;
  serial = λ j. stays ℕ (λ (y : Node). y.serial) old i j x within refl;
  size = length-set old i x;
}

sets_before_here : (old : List Node) (i v : ℕ) → i < length old → SetsBefore old (set old i (record (node old i) { before = v })) i v
sets_before_here old i v within = let x : Node = record (node old i) { before = v } in record {
  here = ap (λ (y : Node). y.before) (node_set old i x within);
  others = λ j ne. node_other old i j x ne;
  after = λ j. stays ℕ (λ (y : Node). y.after) old i j x within refl;
  due = λ j. stays ℕ (λ (y : Node). y.due) old i j x within refl;
  serial = λ j. stays ℕ (λ (y : Node). y.serial) old i j x within refl;
  size = length-set old i x;
}

pub sets_after : (old new : List Node) (i v : ℕ) → i < length old → new ≡ set old i (record (node old i) { after = v }) → SetsAfter old new i v
sets_after old new i v within is = subst (λ (xs : List Node). SetsAfter old xs i v) (sym is) (sets_after_here old i v within)

pub sets_before : (old new : List Node) (i v : ℕ) → i < length old → new ≡ set old i (record (node old i) { before = v }) → SetsBefore old new i v
sets_before old new i v within is = subst (λ (xs : List Node). SetsBefore old xs i v) (sym is) (sets_before_here old i v within)
