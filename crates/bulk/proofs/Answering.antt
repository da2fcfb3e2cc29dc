-- The passes one after another make of each address what look up answers; and the outcome of a call, by what was tested. Assumes nothing.
use mathlib.Core.Path.{◌≡◌, sym, ap, ◌∙◌}
use mathlib.Core.List.{List, map}
use Prim.Native.Nat.{ℕ, ◌+◌, ◌-◌, ◌%◌, ◌^◌, ◌<◌}
use native.Mathlib.Omega.{arith}
use lib.Dec.{ltb, eqb}
use mathlib.Core.Bool.{Bool, cond, ◌&&◌}
use lib.ListN.{length, get_or}
use lib.Seq.{ext_get_or}
use Rattle.std.proofs.lemmas.List.{length-map, get_or-map}
use Rattle.ground.proofs.Tests.{Decides, leb?, ltb?, eqb?, and?, passes, by_test, cond_on, cond_off}
use Rattle.prefix.specs.declared.Prefix.{Prefix}
use Rattle.prefix.specs.Prefixes.{Contains}
use Rattle.prefix.proofs.Prefixes.{contains?, own}
use Rattle.prefix.proofs.Spans.{few_blocks, some_block}
use Rattle.prefix.proofs.Inside.{block_from_lem, inside?}
use Rattle.cells.specs.Cells.{pointer_bit}
use Rattle.cells.specs.Memory.{lent_to_read}
use Rattle.lookup.specs.Lookup.{refused, says_of, look_up, packed}
use Rattle.lookup.specs.inner.Standing.{standing_of}
use Rattle.prefix.specs.Geometry.{block_size, block_of, block_from}
use Rattle.cells.proofs.Lending.{LentToRead, lent_to_read?}
use Rattle.lookup.proofs.Reading.{stands, goes_on_lem}
use Rattle.lookup.proofs.Answers.{decides, told_says, no_pointer}
use Rattle.bulk.specs.All.{Outcome, answer_of, all_of}
use Rattle.bulk.specs.inner.Passes.{place_of, fetched_of, verdict_or_marked, judged_of}

-- ---- what was tested

-- the territory's own address is in it
pub lent_test : (first long : ℕ) (t : Prefix) → standing_of first long t t.address ≡ cond (lent_to_read first long t) 0 1
unfolding standing_of
lent_test first long t = ap (λ (inside : Bool). cond (lent_to_read first long t) (cond inside 0 3) 1) (passes (contains? t t.address) (own t))

-- the first table has a cell, and its cells are counted in 32 bits
pub some_cell : (first long : ℕ) (t : Prefix) (a : ℕ) → standing_of first long t a ≡ 0 → 0 < first
some_cell first long t a z = omega (arith, (stands z).lent.a_cell_a_block, some_block t)

pub few_cells : (first long : ℕ) (t : Prefix) (a : ℕ) → standing_of first long t a ≡ 0 → first < 2 ^ 32
few_cells first long t a z = omega (arith, (stands z).lent.a_cell_a_block, few_blocks t)

module _ (first long : List ℕ) (t : Prefix) (addresses answers : List ℕ) where
  -- what a call asks
  abbrev pub MayAnswer : Type 0
  MayAnswer = LentToRead (length first) (length long) t × (length addresses ≡ length answers)

  pub may_answer? : Decides MayAnswer (lent_to_read (length first) (length long) t && eqb (length addresses) (length answers))
  may_answer? = and? (lent_to_read? (length first) (length long) t) (eqb? (length addresses) (length answers))

  -- and back, by the number that a call answers
  pub has_answered : {o : Outcome} → o ≡ all_of first long t addresses answers → o.code ≡ 0
      → MayAnswer × (o.answers ≡ map (answer_of first long t) addresses)
  unfolding all_of
  has_answered e z =
      by_test may_answer? (λ h. (h, ap (λ (y : Outcome). y.answers) (e ∙ cond_on _ _ may_answer? h)))
      (λ n. absurd (omega (arith, ap (λ (y : Outcome). y.code) (e ∙ cond_off _ _ may_answer? n))))

-- ---- one address: what the passes make of it

-- a first cell, fetched and then judged
by_both : (long : List ℕ) (a cell : ℕ) → verdict_or_marked (fetched_of long a cell) ≡ packed (says_of long (a % block_size) cell)
unfolding verdict_or_marked fetched_of
by_both long a cell =
    let said = packed (says_of long (a % block_size) cell) in
    by_test (leb? pointer_bit cell)
    (λ p. let bare : pointer_bit + said - pointer_bit ≡ said = omega arith in
    ap verdict_or_marked (cond_on _ _ (leb? pointer_bit cell) p) ∙ cond_on _ _ (leb? pointer_bit (pointer_bit + said)) (omega arith) ∙ bare)
    (λ n. ap verdict_or_marked (cond_off _ _ (leb? pointer_bit cell) n)
    ∙ cond_off _ _ (leb? pointer_bit cell) n
    ∙ sym (ap packed (decides long (a % block_size) cell n)))

module _ (first long : List ℕ) (t : Prefix) (a : ℕ) (l : LentToRead (length first) (length long) t) (fits : t.address < 2 ^ 32) (small : a < 2 ^ 32) where
  in? : Decides (Contains t a) (ltb (block_from t.address a) (length first))
  in? = inside? l.territory fits small (length first) l.a_cell_a_block

  passes_answer : judged_of t.address (length first) a (fetched_of long a (get_or first (place_of t.address (length first) a) 0)) ≡ answer_of first long t a
  unfolding look_up judged_of place_of
  passes_answer =
      by_test (contains? t a)
      (λ c. let cell : ℕ = get_or first (block_of t a) 0 in
      ap (λ (k : ℕ). judged_of t.address (length first) a (fetched_of long a (get_or first k 0))) (cond_on _ _ in? c ∙ block_from_lem l.territory fits small c)
      ∙ cond_on _ _ in? c
      ∙ by_both long a cell
      ∙ ap packed (goes_on_lem refused (length first) (length long) t a (says_of long (a % block_size) cell) (record { lent = l; inside = c })))
      (λ n. cond_off _ _ in? n
      ∙ sym (ap packed (cond_on _ _ (lent_to_read? (length first) (length long) t) l ∙ cond_off _ _ (contains? t a) n)))

-- ---- all addresses

-- a place is in the first table
pub place_lent : (base blocks address : ℕ) → 0 < blocks → place_of base blocks address < blocks
unfolding place_of
place_lent base blocks address h =
    let d = ltb? (block_from base address) blocks in
    by_test d (λ l. omega (arith, cond_on (block_from base address) 0 d l)) (λ n. omega (arith, cond_off (block_from base address) 0 d n))

-- the three passes, each on what the last one left
module _ (first long : List ℕ) (t : Prefix) (addresses answers : List ℕ) (z : standing_of (length first) (length long) t t.address ≡ 0)
    (fits : t.address < 2 ^ 32) (small : (i : ℕ) → get_or addresses i 0 < 2 ^ 32) (n : length addresses ≡ length answers) (v w x : List ℕ) where
  pub passes_all : length v ≡ length answers → length w ≡ length v → length x ≡ length w
      → ((i : ℕ) → i < length answers → get_or v i 0 ≡ place_of t.address (length first) (get_or addresses i 0))
      → ((i : ℕ) → i < length v → get_or w i 0 ≡ fetched_of long (get_or addresses i 0) (get_or first (get_or v i 0) 0))
      → ((i : ℕ) → i < length w → get_or x i 0 ≡ judged_of t.address (length first) (get_or addresses i 0) (get_or w i 0))
      → record { code = 0; answers = x } ≡ all_of first long t addresses answers
  unfolding all_of
  passes_all lv lw lx p q r =
      ap (λ (y : List ℕ). record { code = 0; answers = y })
      (ext_get_or 0 x (map (answer_of first long t) addresses)
      (omega (arith, length-map addresses (answer_of first long t)))
      (λ i h. let address = get_or addresses i 0 in
      r i (omega arith)
      ∙ ap (judged_of t.address (length first) address)
      (q i (omega arith) ∙ ap (λ (k : ℕ). fetched_of long address (get_or first k 0)) (p i (omega arith)))
      ∙ passes_answer first long t address (stands z).lent fits (small i)
      ∙ sym (get_or-map (answer_of first long t) addresses i 0 0 (omega arith))))
      ∙ sym (cond_on _ _ (may_answer? first long t addresses answers) ((stands z).lent, n))

-- what a pointer says, on words as they are lent
pub said_on_words : (long : List ℕ) (low cell : ℕ) → packed (says_of (map (λ n. n) long) low cell) < pointer_bit
said_on_words long low cell = no_pointer (told_says (map (λ n. n) long) low cell)
