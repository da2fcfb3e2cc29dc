-- The cells that differ between the tables of two live lists are as many as the price says, where a block that is open both times keeps its
-- segment, and blocks only open or only close. Assumes nothing.
use mathlib.Core.Path.{◌≡◌, refl, sym, ap, ap₂, subst, ◌∙◌}
use mathlib.Core.Logic.{◌⊎◌, inl, inr}
use mathlib.Core.Bool.{Bool, true, false, cond, false≢true}
use mathlib.Core.List.{List}
use Prim.Native.Nat.{ℕ, zero, suc, ◌+◌, ◌*◌, ◌≤◌, ◌<◌}
use native.Mathlib.Nat.{mul_comm}
use native.Mathlib.Omega.{arith}
use native.Mathlib.Numerals.{add-one}
use lib.Dec.{eqb}
use lib.ListN.{length, get_or}
use Rattle.ground.specs.Sums.{sum}
use Rattle.ground.specs.Lists.{differs, differing}
use Rattle.ground.proofs.Tests.{eqb?, by_test, cond_on, cond_off}
use Rattle.ground.proofs.Lists.{differs-same, differs-other, differing-sum}
use Rattle.ground.proofs.Sums.{sum_cong, sum_none, sum_groups}
use Rattle.prefix.specs.declared.Prefix.{Prefix}
use Rattle.prefix.specs.Price.{is_open, differ, price}
use Rattle.prefix.specs.Geometry.{blocks, block_start, block_size}
use Rattle.prefix.specs.declared.Route.{Route}
use Rattle.prefix.specs.Routes.{no_route, best, AllRoutes}
use Rattle.prefix.proofs.Blocks.{entry_differs, cell, price_cells, differ_same}
use Rattle.cells.specs.Cells.{point_to, cell_of}
use Rattle.cells.specs.Memory.{Tables}
use Rattle.tables.specs.Changes.{changed}
use Rattle.history.proofs.Holding.{Belongs, Holds}
use Rattle.history.proofs.Matches.{Good, best_good, cell_direct, cells_differ}
use Rattle.history.proofs.LiveTables.{TablesOf}
use Rattle.history.proofs.Owners.{owned, of_owner, owned_yes, sum_owned}

-- blocks of the territory only open, or only close
pub data OneWay (t : Prefix) (O Q : ℕ → Bool) : Type 0 where
  opening : ((k : ℕ) → k < blocks t → O k ≡ true → Q k ≡ true) → OneWay t O Q
  closing : ((k : ℕ) → k < blocks t → Q k ≡ true → O k ≡ true) → OneWay t O Q

-- a block that is open both times keeps its first cell
abbrev pub Keeps : Prefix → (ℕ → Bool) → (ℕ → Bool) → List ℕ → List ℕ → Type 0
Keeps t O Q first first' = (k : ℕ) → k < blocks t → O k ≡ true → Q k ≡ true → get_or first' k 0 ≡ get_or first k 0

-- the block that points to a segment owns it
points_own : {t : Prefix} {O : ℕ → Bool} {C : ℕ → ℕ} {T : Tables} → Holds t O C T → (k s : ℕ) → k < blocks t
    → O k ≡ true → get_or T.first k 0 ≡ point_to s → (s < length T.owners) × (get_or T.owners s 0 ≡ k + 1)
points_own H k s h o e =
    let S = H.open_at k h o in
    let n : S.number ≡ s = let q = sym S.owns.points ∙ e in omega arith in
    (rw n at S.owns.lent, rw n at S.owns.owner)

-- and the segment holds the cells of its addresses
points_cells : {t : Prefix} {O : ℕ → Bool} {C : ℕ → ℕ} {T : Tables} → Holds t O C T → (k s : ℕ) → k < blocks t
    → O k ≡ true → get_or T.first k 0 ≡ point_to s → (i : ℕ) → i < block_size → get_or T.long (s * block_size + i) 0 ≡ C (block_start t k + i)
points_cells H k s h o e i l =
    let S = H.open_at k h o in
    let n : S.number ≡ s = let q = sym S.owns.points ∙ e in omega arith in
    rw n at (S.cells i l)

module _ (t : Prefix) (rs vs : List Route) (m n : Tables) (all : AllRoutes rs) (all' : AllRoutes vs)
    (T : TablesOf t rs m) (U : TablesOf t vs n) (same_owners : length m.owners ≡ length n.owners)
    (keeps : Keeps t (λ k. is_open rs (block_start t k)) (λ k. is_open vs (block_start t k)) m.first n.first)
    (way : OneWay t (λ k. is_open rs (block_start t k)) (λ k. is_open vs (block_start t k))) where
  abbrev O : ℕ → Bool
  O k = is_open rs (block_start t k)

  abbrev Q : ℕ → Bool
  Q k = is_open vs (block_start t k)

  -- ---- the first table

  first_cell_lem : (k : ℕ) → k < blocks t → (x y : Bool) → O k ≡ x → Q k ≡ y
      → differs (get_or m.first k 0) (get_or n.first k 0) ≡ entry_differs x y (best rs (block_start t k)) (best vs (block_start t k))
  unfolding entry_differs
  first_cell_lem k h false false o q =
      ap₂ differs (T.closed k h o) (U.closed k h q) ∙ cells_differ _ _ (best_good rs _ all) (best_good vs _ all')
  first_cell_lem k h false true o q =
      differs-other _ _ (λ e. let S = U.open_at k h q in omega (arith, S.owns.points, T.closed k h o, cell_direct (best rs (block_start t k)) (best_good rs (block_start t k) all)))
  first_cell_lem k h true false o q =
      differs-other _ _ (λ e. let S = T.open_at k h o in omega (arith, S.owns.points, U.closed k h q, cell_direct (best vs (block_start t k)) (best_good vs (block_start t k) all')))
  first_cell_lem k h true true o q = differs-same _ _ (sym (keeps k h o q))

  first_sum : differing m.first n.first
      ≡ sum (blocks t) (λ k. let a = block_start t k in entry_differs (is_open rs a) (is_open vs a) (best rs a) (best vs a))
  first_sum =
      differing-sum m.first n.first (T.sized.firsts ∙ sym U.sized.firsts)
      ∙ ap (λ (c : ℕ). sum c (λ i. differs (get_or m.first i 0) (get_or n.first i 0))) T.sized.firsts
      ∙ sum_cong (blocks t) _ _ (λ k h. first_cell_lem k h (O k) (Q k) refl refl)

  -- ---- the long table: a segment belongs to the block that owns it before or after

  -- a segment that has an owner both times has the same
  same_owner : (s : ℕ) → s < length m.owners → ¬ (get_or m.owners s 0 ≡ 0) → ¬ (get_or n.owners s 0 ≡ 0)
      → get_or n.owners s 0 ≡ get_or m.owners s 0
  same_owner s h x y = go way
    where
      B : Belongs t O m s
      B = T.owned s h x

      D : Belongs t Q n s
      D = U.owned s (rw same_owners at h) y

      go : OneWay t O Q → get_or n.owners s 0 ≡ get_or m.owners s 0
      go (opening f) =
          let o = f B.block B.inside B.says_open in
          (points_own U B.block s B.inside o (keeps B.block B.inside B.says_open o ∙ B.points)).1 ∙ sym B.owner
      go (closing f) =
          let o = f D.block D.inside D.says_open in
          D.owner ∙ sym (points_own T D.block s D.inside o (sym (keeps D.block D.inside o D.says_open) ∙ D.points)).1

  -- the owner before, or else after
  owner : ℕ → ℕ
  owner s = cond (eqb (get_or m.owners s 0) 0) (get_or n.owners s 0) (get_or m.owners s 0)

  owner_before : (s : ℕ) → ¬ (get_or m.owners s 0 ≡ 0) → owner s ≡ get_or m.owners s 0
  unfolding owner
  owner_before s x = cond_off _ _ (eqb? (get_or m.owners s 0) 0) x

  owner_after : (s : ℕ) → get_or m.owners s 0 ≡ 0 → owner s ≡ get_or n.owners s 0
  unfolding owner
  owner_after s z = cond_on _ _ (eqb? (get_or m.owners s 0) 0) z

  -- what the cells of the block k cost, in the segment that it has before or after
  segment_price : ℕ → ℕ
  segment_price k = let a = block_start t k in sum block_size (λ i. differ (cell (is_open rs a) rs (a + i)) (cell (is_open vs a) vs (a + i)))

  -- the cells of segment s that differ
  segment_differs : ℕ → ℕ
  segment_differs s = sum block_size (λ i. differs (get_or m.long (s * block_size + i) 0) (get_or n.long (s * block_size + i) 0))

  -- by what stands in the segment before and after
  differs_by : (s k : ℕ) (x y : Bool) → O k ≡ x → Q k ≡ y
      → ((i : ℕ) → i < block_size → get_or m.long (s * block_size + i) 0 ≡ cell_of (cell x rs (block_start t k + i)))
      → ((i : ℕ) → i < block_size → get_or n.long (s * block_size + i) 0 ≡ cell_of (cell y vs (block_start t k + i)))
      → segment_differs s ≡ segment_price k
  unfolding segment_differs segment_price cell
  differs_by s k x y o q f g =
      sum_cong block_size _ _ (λ i h.
      let a = block_start t k + i in
      ap₂ differs (f i h) (g i h) ∙ cells_differ (cell x rs a) (cell y vs a) (good x rs a all) (good y vs a all')
      ∙ ap₂ (λ (u v : Bool). differ (cell u rs a) (cell v vs a)) (sym o) (sym q))
    where
      good : (x : Bool) (us : List Route) (a : ℕ) → AllRoutes us → Good (cell x us a)
      good true us a h = best_good us a h
      good false us a h = tt

  module _ (s : ℕ) (h : s < length m.owners) where
    h' : s < length n.owners
    h' = rw same_owners at h

    -- open before: then its block has it after, or it is free
    had : (B : Belongs t O m s) (y : Bool) → Q B.block ≡ y → segment_differs s ≡ segment_price B.block
    unfolding cell
    had B true q =
        differs_by s B.block true true B.says_open q (points_cells T B.block s B.inside B.says_open B.points)
        (points_cells U B.block s B.inside q (keeps B.block B.inside B.says_open q ∙ B.points))
    had B false q =
        differs_by s B.block true false B.says_open q (points_cells T B.block s B.inside B.says_open B.points)
        (by_test (eqb? (get_or n.owners s 0) 0) (U.free s h') (λ y.
        let D = U.owned s h' y in
        let e : D.block ≡ B.block = let w = sym D.owner ∙ same_owner s h (λ z. let v = sym B.owner ∙ z in omega arith) y ∙ B.owner in omega arith in
        absurd (false≢true (sym q ∙ ap Q (sym e) ∙ D.says_open))))

    -- free before, and its block has it after
    gets : get_or m.owners s 0 ≡ 0 → (D : Belongs t Q n s) (x : Bool) → O D.block ≡ x → segment_differs s ≡ segment_price D.block
    unfolding cell
    gets z D true o =
        let w = (points_own T D.block s D.inside o (sym (keeps D.block D.inside o D.says_open) ∙ D.points)).1 in
        absurd (omega arith)
    gets z D false o =
        differs_by s D.block false true o D.says_open (T.free s h z) (points_cells U D.block s D.inside D.says_open D.points)

    segment_is : segment_differs s ≡ of_owner segment_price (owner s)
    unfolding segment_differs
    segment_is =
        by_test (eqb? (get_or m.owners s 0) 0)
        (λ z. by_test (eqb? (get_or n.owners s 0) 0)
        (λ y.
        sum_none block_size _ (λ i l. differs-same _ _ (T.free s h z i l ∙ sym (U.free s h' y i l)))
        ∙ sym (ap (of_owner segment_price) (owner_after s z ∙ y)))
        (λ y.
        let D = U.owned s h' y in
        gets z D (O D.block) refl ∙ sym (ap (of_owner segment_price) (owner_after s z ∙ D.owner ∙ add-one D.block))))
        (λ x.
        let B = T.owned s h x in
        had B (Q B.block) refl ∙ sym (ap (of_owner segment_price) (owner_before s x ∙ B.owner ∙ add-one B.block)))

    -- an owner is a block of the territory that points to the segment, before or after
    owner_is : (b : ℕ) → owner s ≡ suc b
        → (b < blocks t) × (((O b ≡ true) × (get_or m.first b 0 ≡ point_to s)) ⊎ ((Q b ≡ true) × (get_or n.first b 0 ≡ point_to s)))
    owner_is b e =
        by_test (eqb? (get_or m.owners s 0) 0)
        (λ z.
        let D = U.owned s h' (λ y. let w = sym (owner_after s z ∙ y) ∙ e in omega arith) in
        let q : D.block ≡ b = let w = sym D.owner ∙ sym (owner_after s z) ∙ e in omega arith in
        (subst (λ (k : ℕ). k < blocks t) q D.inside, inr (ap Q (sym q) ∙ D.says_open, ap (λ (k : ℕ). get_or n.first k 0) (sym q) ∙ D.points)))
        (λ x.
        let B = T.owned s h x in
        let q : B.block ≡ b = let w = sym B.owner ∙ sym (owner_before s x) ∙ e in omega arith in
        (subst (λ (k : ℕ). k < blocks t) q B.inside, inl (ap O (sym q) ∙ B.says_open, ap (λ (k : ℕ). get_or m.first k 0) (sym q) ∙ B.points)))

  owner_low : (s : ℕ) → s < length m.owners → owner s ≤ blocks t
  owner_low s h = go (owner s) refl
    where
      go : (o : ℕ) → owner s ≡ o → o ≤ blocks t
      go zero e = omega arith
      go (suc b) e = (owner_is s h b e).0

  -- a block has one segment
  owner_one : (j k : ℕ) → j < length m.owners → k < length m.owners → ¬ (owner j ≡ 0) → owner j ≡ owner k → j ≡ k
  owner_one j k hj hk x e = go (owner j) refl
    where
      both : (b : ℕ) → b < blocks t → ((O b ≡ true) × (get_or m.first b 0 ≡ point_to j)) ⊎ ((Q b ≡ true) × (get_or n.first b 0 ≡ point_to j))
          → ((O b ≡ true) × (get_or m.first b 0 ≡ point_to k)) ⊎ ((Q b ≡ true) × (get_or n.first b 0 ≡ point_to k)) → j ≡ k
      both b h (inl p) (inl q) = let w = sym p.1 ∙ q.1 in omega arith
      both b h (inl p) (inr q) = let w = sym p.1 ∙ sym (keeps b h p.0 q.0) ∙ q.1 in omega arith
      both b h (inr p) (inl q) = let w = sym p.1 ∙ keeps b h q.0 p.0 ∙ q.1 in omega arith
      both b h (inr p) (inr q) = let w = sym p.1 ∙ q.1 in omega arith

      go : (o : ℕ) → owner j ≡ o → j ≡ k
      go zero z = absurd (x z)
      go (suc b) z = let p = owner_is j hj b z in both b p.0 p.1 (owner_is k hk b (sym e ∙ z)).1

  -- a block with no segment before or after was closed both times, and costs no cell of the long table
  unowned : (b : ℕ) → b < blocks t → owned (length m.owners) owner b ≡ false → segment_price b ≡ 0
  unfolding segment_price cell
  unowned b h f = go (O b) (Q b) refl refl
    where
      free : (s : ℕ) → s < length m.owners → owner s ≡ suc b → ⊥
      free s l e = false≢true (sym f ∙ owned_yes (length m.owners) owner b s l e)

      go : (x y : Bool) → O b ≡ x → Q b ≡ y
          → sum block_size (λ i. differ (cell x rs (block_start t b + i)) (cell y vs (block_start t b + i))) ≡ 0
      go true y o q =
          let S = T.open_at b h o in
          absurd (free S.number S.owns.lent (owner_before S.number (λ z. let w = sym S.owns.owner ∙ z in omega arith) ∙ S.owns.owner ∙ add-one b))
      go false true o q =
          let S = U.open_at b h q in
          let l : S.number < length m.owners = rw (sym same_owners) at S.owns.lent in
          by_test (eqb? (get_or m.owners S.number 0) 0)
          (λ z. absurd (free S.number l (owner_after S.number z ∙ S.owns.owner ∙ add-one b)))
          (λ x.
          absurd (free S.number l (owner_before S.number x
          ∙ sym (same_owner S.number l x (λ z. let w = sym S.owns.owner ∙ z in omega arith)) ∙ S.owns.owner ∙ add-one b)))
      go false false o q = sum_none block_size _ (λ i l. differ_same no_route no_route refl)

  long_sum : differing m.long n.long ≡ sum (blocks t) segment_price
  unfolding segment_differs
  long_sum =
      let S = length m.owners in
      let e : length m.long ≡ S * block_size = T.sized.longs ∙ mul_comm block_size S in
      differing-sum m.long n.long (T.sized.longs ∙ ap (λ (k : ℕ). block_size * k) same_owners ∙ sym U.sized.longs)
      ∙ ap (λ (c : ℕ). sum c (λ i. differs (get_or m.long i 0) (get_or n.long i 0))) e
      ∙ sum_groups S block_size (λ i. differs (get_or m.long i 0) (get_or n.long i 0))
      ∙ sum_cong S segment_differs (λ s. of_owner segment_price (owner s)) segment_is
      ∙ sum_owned S (blocks t) owner segment_price owner_low owner_one
      ∙ sum_cong (blocks t) _ segment_price (λ b h. go b h (owned S owner b) refl)
    where
      go : (b : ℕ) → b < blocks t → (x : Bool) → owned (length m.owners) owner b ≡ x → cond x (segment_price b) 0 ≡ segment_price b
      go b h true e = refl
      go b h false e = sym (unowned b h e)

  -- The cells that differ are the price.
  pub count_is_price : changed m n ≡ price t rs vs
  unfolding segment_price
  count_is_price = ap₂ ◌+◌ first_sum long_sum ∙ sym (price_cells t rs vs)
