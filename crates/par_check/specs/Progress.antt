-- Which clauses with the sign have their literals, while they are computed each after its antecedents.
use Rattle.std.specs.Prelude.{◌≡◌, ℕ, zero, suc, ◌+◌, ◌*◌, ◌-◌, ◌<◌, ◌≤◌, Bool, true, false, List, [], length, get_or, take, drop, vec_capacity, Option, Result, IfOk, IfSome}
use Rattle.std.specs.List.{AllZip}
use Rattle.clause_defs.specs.Literals.{Literal}
use Rattle.clause_defs.specs.Clauses.{Lits, Has}
use Rattle.clause_defs.specs.Traces.{Entry, IsCompactAt, antecedents_at, index_at}
use Rattle.pch_base.specs.declared.memory.NoMemory.{NoMemory}
use Rattle.flat_lists.specs.Flat.{Flat}
use Rattle.chain_check.specs.Aside.{ChainGives}
use Rattle.chain_check.specs.Known.{AreOver, literals_at, antecedents_known}
use Rattle.chain_check.specs.Rooms.{IsRoomFor}
use Rattle.chain_check.specs.declared.room.Room.{Room}
use Rattle.par_check.specs.Pieces.{piece_begin}
use Rattle.par_check.specs.declared.progress.Desk.{Desk}
use Rattle.par_check.specs.declared.progress.Progress.{Progress}

-- clause k has the sign, and its antecedents are done
pub record IsReady (t : List Entry) (done : List Bool) (k : ℕ) : Type 0 where
  pub within : k < length t
  pub sign : IsCompactAt t k
  pub antecedents : (p : ℕ) → Has (antecedents_at t k) p → get_or done p false ≡ true

-- these are the literals of clause k, which is ready, by its chain
pub record IsComputedBy (t : List Entry) (computed : List Lits) (done : List Bool) (k : ℕ) (ls : Lits) : Type 0 where
  pub ready : IsReady t done k
  pub gives : ChainGives (index_at t k) (antecedents_known t computed k) ls

-- how many literals the clauses before place n have together
abbrev pub sizes_before : List Lits → ℕ → ℕ
sizes_before cs zero = 0
sizes_before cs (suc k) = sizes_before cs k + length (get_or cs k [])

-- the clauses with the sign that are done have their literals, `sum` together, and the others have none
pub record AreDone (t : List Entry) (variables limit : ℕ) (computed : List Lits) (sum : ℕ) (done : List Bool) : Type 0 where
  pub all : length done ≡ length t
  pub over : (p : ℕ) → AreOver variables (literals_at t computed p)
  pub none : (p : ℕ) → get_or done p false ≡ false → get_or computed p [] ≡ []
  pub stated : (p : ℕ) → (IsCompactAt t p → ⊥) → get_or computed p [] ≡ []
  pub chains : (k : ℕ) → IsCompactAt t k → get_or done k false ≡ true → IsComputedBy t computed done k (get_or computed k [])
  pub counted : sum ≡ sizes_before computed (length t)
  pub fits : sum ≤ limit

-- the room is one for the trace, and the clauses that are done have their literals there, within its limit and over its variables
pub record KeepsUp (progress : Progress) (room : Room) : Type 0 where
  pub enough : IsRoomFor progress.t.now room
  pub clauses : AreDone progress.t.now room.marks.variables room.limit room.computed.clauses room.computed.total progress.done.items

-- the trace is the same, and the room is one for it again, with the same limit and variables
pub record Advances (was now : Progress) (before after : Room) : Type 0 where
  pub trace : now.t ≡ was.t
  pub enough : IsRoomFor was.t.now after
  pub limit : after.limit ≡ before.limit
  pub variables : after.marks.variables ≡ before.marks.variables

-- what was computed of any clause is so still
abbrev pub StaysComputed : Progress → Progress → Room → Room → Type 0
StaysComputed was now before after = (j : ℕ) (ls : Lits)
    → IsComputedBy was.t.now before.computed.clauses was.done.items j ls → IsComputedBy was.t.now after.computed.clauses now.done.items j ls

-- the desk is one for the variables of the room
pub record IsDeskFor (room : Room) (desk : Desk) : Type 0 where
  pub variables : desk.marks.variables ≡ room.marks.variables
  pub clause : 2 * desk.marks.variables ≤ vec_capacity desk.clause

-- the desk is for the same variables, and has the same capacity
pub record IsSameDesk (was now : Desk) : Type 0 where
  pub variables : now.marks.variables ≡ was.marks.variables
  pub clause : vec_capacity now.clause ≡ vec_capacity was.clause

-- part p of a list that is divided into so many
abbrev pub places_of : List ℕ → ℕ → ℕ → List ℕ
places_of ks parts p =
    take (piece_begin (length ks) parts (p + 1) - piece_begin (length ks) parts p) (drop (piece_begin (length ks) parts p) ks)

-- what the worker has found that computes the clauses at these places
abbrev pub IsPart : List Entry → List Lits → List Bool → List ℕ → Result (Option (Flat Literal)) NoMemory → Type 0
IsPart t computed done ks found =
    IfOk found (λ o. IfSome o (λ lists. AllZip (IsComputedBy t computed done) ks lists.lists))
