-- What the questions about the paths of one move promise (rules 6.1 to 6.8, 8.24, 8.25, 8.28, 9.11 and 9.12).
-- N is the network, s and g are the move's start and goal. A network or a list with ' is as the question
-- leaves it.
--     Unfit           11: the proposed list is no shortest path of the move
--     said_housed     what the question for a house path says: how many nodes the path has, or the refusal with
--                     its number and place
--     House           an accepted house path of that many nodes: the list's first places are the house path,
--                     which has one node more than the distance; past it there are zeros up to the least
--                     length, and beyond nothing is touched
--     HouseLeft q     what is left with an answer to a question q for a house path: the path where nothing of
--                     q holds, or the first fault and what that leaves in the list
--     HouseAnswer     the answer to the question for the house path of a move, with the list that it leaves
--     ListAnswer      the answer to the question about one list
--     Passes          neither the network nor the move is at fault, and the list is a shortest path of the
--                     move
--     Chosen          the own list if it passes, otherwise the spare if that passes, otherwise an empty part.
--                     It is the lent list itself, the same reference; the empty part is that of the own list
--                     at its beginning
--     ChoiceAnswer    the answer to the question for the choice
--     NodeByNode      at the first place where two lists differ, the first list has the lower node
use Rattle.std.specs.Prelude.{◌≡◌, ◌≢◌, List, [], ℕ, ◌+◌, ◌≤◌, ◌<◌, length, get_or, take, Result}
use Rattle.std.specs.Borrow.{Bor}
use Rattle.hall.specs.declared.Refusal.{Refusal}
use Rattle.hall.specs.Limits.{node_limit}
use Rattle.hall.specs.Floor.{Network, floor}
use Rattle.hall.specs.Path.{ShortestPath, HousePath}
use Rattle.hall.specs.Stages.{Question, First, None}
use Rattle.hall.specs.Said.{Said, accepted, refused, said, Judged}
use Rattle.hall.specs.Questions.{move_question, house_of_move, list_of_move}
use Rattle.hall.specs.Left.{left}

abbrev pub Unfit : Network → (s g : ℕ) (list : List ℕ) → Type 0
Unfit N s g list = ¬ ShortestPath (floor N) s g list

-- ---- the house path

abbrev pub said_housed : Result ℕ Refusal → Said ℕ
said_housed = said (λ count. count)

pub record House (N : Network) (s g : ℕ) (path path' : List ℕ) (count : ℕ) : Type 0 where
  pub d : ℕ
  pub nodes_of_it : count ≡ d + 1
  pub is_house_path : HousePath (floor N) s g d (take count path')
  pub same_length : length path' ≡ length path
  pub zeros : (k : ℕ) → count ≤ k → k < node_limit → get_or path' k 0 ≡ 0
  pub beyond : (k : ℕ) → node_limit ≤ k → get_or path' k 0 ≡ get_or path k 0

abbrev pub HouseLeft : (q : Question) (N : Network) (s g : ℕ) (path path' : List ℕ) → Said ℕ → Type 0
HouseLeft q N s g path path' (accepted count) = None q × House N s g path path' count
HouseLeft q N s g path path' (refused n p) = First q n p × (path' ≡ left n node_limit path)

pub record HouseAnswer (N N' : Network) (s g : ℕ) (path path' : List ℕ) (r : Result ℕ Refusal) : Type 0 where
  pub given : HouseLeft (house_of_move (length path < node_limit) N s g) N s g path path' (said_housed r)
  pub network_kept : N' ≡ N

-- ---- the question about one list

pub record ListAnswer (N N' : Network) (s g : ℕ) (list list' : List ℕ) (r : Result Unit Refusal) : Type 0 where
  pub judged : Judged (list_of_move N s g (Unfit N s g list)) r
  pub network_kept : N' ≡ N
  pub list_kept : list' ≡ list

-- ---- the choice

pub record Passes (N : Network) (s g : ℕ) (list : List ℕ) : Type 0 where
  pub no_fault : None (move_question N s g)
  pub shortest : ShortestPath (floor N) s g list

pub data Chosen (N : Network) (s g : ℕ) (own spare r : Bor (List ℕ)) : Type 0 where
  own_list : Passes N s g own.now → r ≡ own → Chosen N s g own spare r
  spare_list : ¬ Passes N s g own.now → Passes N s g spare.now → r ≡ spare → Chosen N s g own spare r
  neither : ¬ Passes N s g own.now → ¬ Passes N s g spare.now → r.ref_ptr ≡ own.ref_ptr → r.now ≡ []
      → Chosen N s g own spare r

pub record ChoiceAnswer (N N' : Network) (s g : ℕ) (own own' spare spare' r : Bor (List ℕ)) : Type 0 where
  pub chosen : Chosen N s g own spare r
  pub network_kept : N' ≡ N
  pub own_kept : own' ≡ own
  pub spare_kept : spare' ≡ spare

-- ---- lists compared node by node

abbrev pub NodeByNode : List ℕ → List ℕ → Type 0
NodeByNode l l' =
    (k : ℕ) → k < length l → ((i : ℕ) → i < k → get_or l i 0 ≡ get_or l' i 0) → get_or l k 0 ≢ get_or l' k 0
    → get_or l k 0 < get_or l' k 0
