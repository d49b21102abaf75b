-- The first key of a list is its least.
use Rattle.std.proofs.Common.{◌≡◌, ℕ, zero, suc, ◌<◌, ◌≤◌, List, sym, ap, ◌∙◌, subst, arith, length, inl, inr, ⊎_elim}
use Rattle.std.proofs.lemmas.Bool.{cases_lt}
use Rattle.sim_queue.specs.declared.lists.Node.{Node}
use Rattle.sim_queue.specs.inside.Lists.{node, list_of, order_of, HasKey, IsLinked, IsLists, IsBehind, IsEmptyList}
use Rattle.sim_queue.proofs.Nodes.{key_within, key_from, linked_within, linked_key}

-- p is the first node of a list, and i is not before it
pub record IsLeastIn (w : ℕ) (nodes : List Node) (list i : ℕ) : Type 0 where
  pub from : 256 ≤ (node nodes list).after
  pub least : order_of (node nodes (node nodes list).after) ≤ order_of (node nodes i)

least_below : (n w : ℕ) (nodes : List Node) (i : ℕ) → IsLists w nodes → HasKey (node nodes i) → order_of (node nodes i) < n → IsLeastIn w nodes (list_of w (node nodes i)) i
least_below zero w nodes i lists key below = absurd (omega arith)
least_below (suc n) w nodes i lists key below = ⊎_elim end (inner (λ k less. least_below n w nodes (node nodes i).before lists k less)) (cases_lt (node nodes i).before 256)
  where
    x : IsBehind w nodes i
    x = lists.behind i (inr key)

    from : 256 ≤ i
    from = key_from w nodes i lists key

    end : (node nodes i).before < 256 → IsLeastIn w nodes (list_of w (node nodes i)) i
    end lt =
        let within : (node nodes i).before < length nodes = linked_within nodes (node nodes i).before x.linked in
        let same : list_of w (node nodes i) ≡ (node nodes i).before = sym x.list ∙ lists.lists (node nodes i).before lt within in
        let first : (node nodes (list_of w (node nodes i))).after ≡ i = ap (λ (n : ℕ). (node nodes n).after) same ∙ x.back in
        record {
          from = subst (λ (n : ℕ). 256 ≤ n) (sym first) from;
          least = subst (λ (n : ℕ). order_of (node nodes n) ≤ order_of (node nodes i)) (sym first) (omega arith);
        }

    inner : (HasKey (node nodes (node nodes i).before) → order_of (node nodes (node nodes i).before) < n → IsLeastIn w nodes (list_of w (node nodes (node nodes i).before)) (node nodes i).before)
        → 256 ≤ (node nodes i).before → IsLeastIn w nodes (list_of w (node nodes i)) i
    inner more ge =
        let up : order_of (node nodes (node nodes i).before) < order_of (node nodes i) = x.rising from ge in
        let before = more (linked_key nodes (node nodes i).before x.linked ge) (omega arith) in
        let here : IsLeastIn w nodes (list_of w (node nodes i)) (node nodes i).before = subst (λ (l : ℕ). IsLeastIn w nodes l (node nodes i).before) x.list before in
        record { from = here.from; least = let le = here.least in omega arith }

pub head_least : (w : ℕ) (nodes : List Node) (i : ℕ) → IsLists w nodes → HasKey (node nodes i) → IsLeastIn w nodes (list_of w (node nodes i)) i
head_least w nodes i lists key = least_below (suc (order_of (node nodes i))) w nodes i lists key (omega arith)

-- the list of a key is there
pub list_within : (w : ℕ) (nodes : List Node) (i : ℕ) → IsLists w nodes → HasKey (node nodes i) → list_of w (node nodes i) < length nodes
list_within w nodes i lists key =
    let from = key_from w nodes i lists key in
    let within = key_within nodes i key in
    let lt : list_of w (node nodes i) < 256 = omega arith in
    omega arith

-- the first node of a list has a key, and stands in the list
pub record IsHead (w : ℕ) (nodes : List Node) (l p : ℕ) : Type 0 where
  pub key : HasKey (node nodes p)
  pub list : list_of w (node nodes p) ≡ l

pub head_there : (w : ℕ) (nodes : List Node) (list p : ℕ) → IsLists w nodes → list < 256 → list < length nodes → (node nodes list).after ≡ p → 256 ≤ p → IsHead w nodes list p
head_there w nodes list p lists lt within is from =
    let x = lists.ahead list (inl (lt, within)) in
    let linked : IsLinked nodes p = subst (λ (n : ℕ). IsLinked nodes n) is x.linked in
    let y = lists.behind p linked in
    let before : (node nodes p).before ≡ list = ap (λ (n : ℕ). (node nodes n).before) (sym is) ∙ x.forth in
    record {
      key = linked_key nodes p linked from;
      list = sym y.list ∙ ap (λ (n : ℕ). list_of w (node nodes n)) before ∙ lists.lists list lt within;
    }

-- where the first node of a list is its end, no key is in it
pub no_head : (w : ℕ) (nodes : List Node) (list : ℕ) → IsLists w nodes → (list < length nodes → (node nodes list).after < 256) → IsEmptyList w list nodes
no_head w nodes list lists end i key same =
    let least = head_least w nodes i lists key in
    let from : 256 ≤ (node nodes list).after = subst (λ (n : ℕ). 256 ≤ (node nodes n).after) same least.from in
    let within : list < length nodes = subst (λ (n : ℕ). n < length nodes) same (list_within w nodes i lists key) in
    let low = end within in
    omega arith
