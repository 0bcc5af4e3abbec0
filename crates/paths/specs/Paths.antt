-- The paths of a program, for any rule `look` that says what an address leads to at a depth.
use Rattle.std.specs.Prelude.{◌≡◌, ◌≢◌, List, ◌∷◌, ℕ, ◌<◌, ◌≤◌, length, get_or}

-- a successor: its address and depth
pub data Hop : Type 0 where
  hop : ℕ → ℕ → Hop

-- what an address leads to at a depth: a refusal's number, or its successors, next instruction first
pub data Outcome : Type 0 where
  bad : ℕ → Outcome
  leads : List Hop → Outcome

-- the address a at depth d is one of these successors
pub data In (a d : ℕ) : List Hop → Type 0 where
  here : {hs : List Hop} → In a d (hop a d ∷ hs)
  there : {h : Hop} {hs : List Hop} → In a d hs → In a d (h ∷ hs)

module _ (look : ℕ → ℕ → Outcome) where
  -- "A path starts at address 0, depth 0": the addresses that paths meet, and the depths at which they do
  pub data Met : ℕ → ℕ → Type 0 where
    start : Met 0 0
    onward : {a d b e : ℕ} {hs : List Hop} → Met a d → look a d ≡ leads hs → In b e hs → Met b e

  -- the path condition of demand 3, of a program of n bytes: no path leads to the program's end or to a refused
  -- instruction, "and no address is met at two depths"
  pub record Fine (n : ℕ) : Type 0 where
    pub within : (a d : ℕ) → Met a d → a < n
    pub good : (a d k : ℕ) → Met a d → look a d ≢ bad k
    pub once : (a d e : ℕ) → Met a d → Met a e → d ≡ e

-- "each refusal by the walk has a path that shows it, 10 two": of a program of n bytes, the refusal's number and the address
-- that it names; `clash` numbers the refusal where an address is met at two depths
module _ (clash : ℕ → ℕ → ℕ) (look : ℕ → ℕ → Outcome) where
  pub data Shown (n : ℕ) : ℕ → ℕ → Type 0 where
    -- "An empty program is 1 at 0"; every other refusal "names the instruction examined", which stands inside the program
    empty : n ≡ 0 → Shown n 1 0
    refuses : {a d k : ℕ} → Met look a d → a < n → look a d ≡ bad k → Shown n k a
    leaves : {a d b e : ℕ} {hs : List Hop} → Met look a d → a < n → look a d ≡ leads hs → In b e hs → n ≤ b → Shown n 1 a
    differs : {a d b e x : ℕ} {hs : List Hop} → Met look a d → a < n → look a d ≡ leads hs → In b e hs → b < n → Met look b x → x ≢ e → Shown n (clash x e) a

-- "a cell holds the depth of its address if a path meets it, else 65,535"
module _ (look : ℕ → ℕ → Outcome) where
  pub record Mapped (n : ℕ) (map : List ℕ) : Type 0 where
    pub size : length map ≡ n
    pub met : (a d : ℕ) → Met look a d → get_or map a 65535 ≡ d
    pub unmet : (a : ℕ) → a < n → ((d : ℕ) → Met look a d → ⊥) → get_or map a 65535 ≡ 65535
