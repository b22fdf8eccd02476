-- Sums of some terms put to the sums of others, place by place.
use Rattle.std.proofs.Common.{◌≡◌, ℕ, ◌<◌, ◌≤◌, ◌+◌, ◌-◌, ap, true, false, cond, ◌||◌, eqb, Bool, List, [], ◌∷◌, ◌++◌, length, get_or, append-nil, Some, None, refl, sym, subst, ◌∙◌, arith}
use Rattle.std.specs.List.{All, filter, fold, reduce}
use Rattle.std.proofs.lemmas.List.Elements.{All-append, All-filter, All-head, All-map, All-nil, All-tail}
use Rattle.std.proofs.lemmas.List.Sums.{fold-append}
use Rattle.algebra.proofs.Folds.{CombinesWords, fold-word, put_on_start}
use Rattle.algebra.proofs.Monoids.{identity-word, monoid-associates, monoid-commutes, monoid-identity, monoid-word}
use Rattle.algebra.proofs.Words.{IsWordOf-eval}
use Rattle.algebra.specs.Monoids.{identity_of}
use Rattle.algebra.specs.Operators.{combines_by, offers}
use Rattle.algebra.specs.Value.{IsWordOf}
use Rattle.algebra.specs.declared.kinds.MonoidKind.TheVariants.{Lor}
use Rattle.algebra.specs.declared.monoid.Monoid.{Monoid}
use Rattle.algebra.specs.declared.semiring.Semiring.{Semiring}
use Rattle.bitmap.specs.Bitmaps.{row_part}
use Rattle.lanes.specs.Bits.{has_bit}
use Rattle.model.specs.declared.entry.Entry.{Entry}
use Rattle.model.specs.Entries.{row_entries, word_at}
use Rattle.model.specs.Object.{transposed_content}
use Rattle.store.specs.Stored.{Stored, content_of}
use Rattle.spgemm.specs.declared.bitmap_sums.Factors.{Factors}
use Rattle.spgemm.specs.declared.bitmap_sums.Sums.{Sums}
use Rattle.spgemm.specs.declared.bitmap_sums.Sums.TheVariants.{Truths, Words}
use Rattle.spgemm.specs.declared.bitmap_truths.TruthSums.{TruthSums}
use Rattle.spgemm.specs.declared.bitmap_words.WordSums.{WordSums}
use Rattle.terms.specs.declared.term.Term.{Term}
use Rattle.spgemm.specs.Dense.{AreColumnSums, AreMarkedSums}
use Rattle.spgemm.specs.Partials.{AreAlike, AreSumsOf, AreTruthsOf, AreWordsOf, terms_between}
use Rattle.terms.specs.Terms.{apply, term_at, terms_of_row, times_row, words_at}
use Rattle.spgemm.proofs.BitmapWalk.{terms_append}
use Rattle.spgemm.specs.Truths.{AreTruths, truth}
use Rattle.terms.proofs.Terms.{reduce-none, words_at-append}
use Rattle.spgemm.proofs.TruthLaws.{lor_truths, on_bool}

-- ---- the words of products

-- a monoid combines the words of its domain
monoid_combines : (add : Monoid) → CombinesWords (IsWordOf add.op.domain) (apply add.op)
monoid_combines add =
    let kind : add.op.kind ≡ combines_by add.kind = add.combines in
    let offered : offers (combines_by add.kind) add.op.domain ≡ true = rw (← kind) add.op.offered in
    record {
      word = λ a b. rw kind (monoid-word add.kind add.op.domain a b);
      commutes = λ a b p q. rw kind (monoid-commutes add.kind add.op.domain a b offered p q);
      associates = λ a b c p q r. rw kind (monoid-associates add.kind add.op.domain a b c offered p q r);
    }

products_are_words : (semiring : Semiring) (row : List Entry) (b : Stored)
    → All (λ t. IsWordOf semiring.add.op.domain t.word) (terms_of_row semiring.multiply row b)
products_are_words semiring [] b = All-nil (λ (t : Term). IsWordOf semiring.add.op.domain t.word)
products_are_words semiring (e ∷ es) b =
    let mul = semiring.multiply in
    let IsWord : Term → Type 0 = λ t. IsWordOf semiring.add.op.domain t.word in
    let entries = row_entries b.cols (content_of b) e.col in
    let words : All (λ (f : Entry). IsWordOf semiring.add.op.domain (apply mul e.word f.word)) entries = λ k d less. rw semiring.adds_answers (IsWordOf-eval mul.kind mul.domain e.word (get_or entries k d).word) in
    All-append IsWord (times_row mul e.word entries) (terms_of_row mul es b)
    (All-map IsWord (λ (f : Entry). term_at f.col (apply mul e.word f.word)) entries words)
    (products_are_words semiring es b)

sums_of_words : (semiring : Semiring) (col : ℕ) (row : List Entry) (b : Stored)
    → All (IsWordOf semiring.add.op.domain) (words_at col (terms_of_row semiring.multiply row b))
sums_of_words semiring col row b =
    let terms = terms_of_row semiring.multiply row b in
    let IsWord : Term → Type 0 = λ t. IsWordOf semiring.add.op.domain t.word in
    All-map (IsWordOf semiring.add.op.domain) (λ (t : Term). t.word) (filter (λ (t : Term). eqb t.col col) terms)
    (All-filter (λ (t : Term). eqb t.col col) IsWord terms (products_are_words semiring row b))

-- ---- sums of two lists

reduce_both : (W : ℕ → Type 0) (f : ℕ → ℕ → ℕ) (laws : CombinesWords W f) (xs ys : List ℕ) (a b : ℕ) → All W xs
    → All W ys → reduce f xs ≡ Some a → reduce f ys ≡ Some b → reduce f (xs ++ ys) ≡ Some (f a b)
reduce_both W f laws [] ys a b p q h k = cc
reduce_both W f laws (x ∷ xs) [] a b p q h k = cc
reduce_both W f laws (x ∷ xs) (y ∷ ys) a b p q h k =
    let low = fold f x xs in
    let word = fold-word W f laws xs x (All-head W x xs p) in
    let whole : reduce f ((x ∷ xs) ++ y ∷ ys) ≡ Some (f low (fold f y ys)) =
    ap Some (fold-append f x xs (y ∷ ys) ∙ sym (put_on_start W f laws ys low y word (All-head W y ys q) (All-tail W y ys q))) in
    let first : low ≡ a = cc in
    let second : fold f y ys ≡ b = cc in
    rw (← first, ← second) whole

reduce_word : (W : ℕ → Type 0) (f : ℕ → ℕ → ℕ) (laws : CombinesWords W f) (xs : List ℕ) (a : ℕ) → All W xs
    → reduce f xs ≡ Some a → W a
reduce_word W f laws [] a p h = cc
reduce_word W f laws (x ∷ xs) a p h =
    let is : fold f x xs ≡ a = cc in
    subst W is (fold-word W f laws xs x (All-head W x xs p))

-- the identity on either side changes no word
first_identity : (add : Monoid) (a : ℕ) → IsWordOf add.op.domain a
    → apply add.op (identity_of add.kind add.op.domain) a ≡ a
first_identity add a word =
    let kind : add.op.kind ≡ combines_by add.kind = add.combines in
    let offered : offers (combines_by add.kind) add.op.domain ≡ true = rw (← kind) add.op.offered in
    rw kind (monoid-identity add.kind add.op.domain a offered word)

identity_is_word : (add : Monoid) → IsWordOf add.op.domain (identity_of add.kind add.op.domain)
identity_is_word add =
    let kind : add.op.kind ≡ combines_by add.kind = add.combines in
    let offered : offers (combines_by add.kind) add.op.domain ≡ true = rw (← kind) add.op.offered in
    identity-word add.kind add.op.domain offered

second_identity : (add : Monoid) (a : ℕ) → IsWordOf add.op.domain a
    → apply add.op a (identity_of add.kind add.op.domain) ≡ a
second_identity add a word =
    let laws = monoid_combines add in
    laws.commutes a (identity_of add.kind add.op.domain) word (identity_is_word add) ∙ first_identity add a word

-- what stands at a place, of words that are marked or the identity
place_sum : (add : Monoid) (xs ys : List ℕ) (m n : Bool) (a b : ℕ) → All (IsWordOf add.op.domain) xs
    → All (IsWordOf add.op.domain) ys → cond m (Some a) None ≡ reduce (apply add.op) xs
    → cond n (Some b) None ≡ reduce (apply add.op) ys → (m ≡ false → a ≡ identity_of add.kind add.op.domain)
    → (n ≡ false → b ≡ identity_of add.kind add.op.domain)
    → cond (m || n) (Some (apply add.op a b)) None ≡ reduce (apply add.op) (xs ++ ys)
place_sum add xs ys true true a b p q h k f g =
    sym (reduce_both (IsWordOf add.op.domain) (apply add.op) (monoid_combines add) xs ys a b p q (sym h) (sym k))
place_sum add xs ys true false a b p q h k f g =
    let none : ys ≡ [] = reduce-none (apply add.op) ys (sym k) in
    let word = reduce_word (IsWordOf add.op.domain) (apply add.op) (monoid_combines add) xs a p (sym h) in
    ap Some (ap (apply add.op a) (g refl) ∙ second_identity add a word) ∙ h ∙ ap (reduce (apply add.op)) (sym (ap (λ l. xs ++ l) none ∙ append-nil xs))
place_sum add xs ys false true a b p q h k f g =
    let none : xs ≡ [] = reduce-none (apply add.op) xs (sym h) in
    let word = reduce_word (IsWordOf add.op.domain) (apply add.op) (monoid_combines add) ys b q (sym k) in
    ap Some (ap (λ s. apply add.op s b) (f refl) ∙ first_identity add b word) ∙ k ∙ ap (reduce (apply add.op)) (sym (ap (λ l. l ++ ys) none))
place_sum add xs ys false false a b p q h k f g =
    let first : xs ≡ [] = reduce-none (apply add.op) xs (sym h) in
    let second : ys ≡ [] = reduce-none (apply add.op) ys (sym k) in
    rw (first, second) refl

none_marked : (m n : Bool) → (m || n) ≡ false → (m ≡ false) × (n ≡ false)
none_marked true n h = absurd (cc)
none_marked false n h = (refl, h)

-- the sums of the terms of two rows
pub sums_together : (semiring : Semiring) (low high : List Entry) (b : Stored) (marks others marks' : List Bool)
    (words adds words' : List ℕ) → length adds ≡ length words → length words' ≡ length words
    → ((at : ℕ) → at < length words → get_or marks' at false ≡ (get_or marks at false || get_or others at false))
    → ((at : ℕ) → at < length words → get_or words' at 0 ≡ apply semiring.add.op (get_or words at 0) (get_or adds at 0))
    → AreMarkedSums semiring.add (terms_of_row semiring.multiply low b) marks words
    → AreMarkedSums semiring.add (terms_of_row semiring.multiply high b) others adds
    → AreMarkedSums semiring.add (terms_of_row semiring.multiply low b ++ terms_of_row semiring.multiply high b) marks' words'
sums_together semiring low high b marks others marks' words adds words' long long' marked summed front back =
    let add = semiring.add in
    let ts = terms_of_row semiring.multiply low b in
    let us = terms_of_row semiring.multiply high b in
    record {
      sums_are = λ col inside.
          let within : col < length words = omega arith in
          rw (marked col within, summed col within)
          (place_sum add (words_at col ts) (words_at col us) (get_or marks col false) (get_or others col false) (get_or words col 0) (get_or adds col 0)
          (sums_of_words semiring col low b) (sums_of_words semiring col high b) (front.sums_are col within) (back.sums_are col (omega arith))
          (front.others_are col within) (back.others_are col (omega arith))
          ∙ ap (reduce (apply add.op)) (sym (words_at-append col ts us)));
      others_are = λ col inside none.
          let within : col < length words = omega arith in
          let both = none_marked (get_or marks col false) (get_or others col false) (sym (marked col within) ∙ none) in
          summed col within ∙ rw (front.others_are col within both.0, back.others_are col (omega arith) both.1) (first_identity add (identity_of add.kind add.op.domain) (identity_is_word add));
    }

-- ..over LOR
truths_together : (semiring : Semiring) (low high : List Entry) (b : Stored) (bits trues others adds bits' trues' : List ℕ)
    → semiring.add.kind ≡ Lor → length others ≡ length bits → length bits' ≡ length bits
    → ((at : ℕ) → has_bit bits' at ≡ (has_bit bits at || has_bit others at))
    → ((at : ℕ) → has_bit trues' at ≡ (has_bit trues at || has_bit adds at))
    → AreTruths semiring.add.op (terms_of_row semiring.multiply low b) bits trues
    → AreTruths semiring.add.op (terms_of_row semiring.multiply high b) others adds
    → AreTruths semiring.add.op (terms_of_row semiring.multiply low b ++ terms_of_row semiring.multiply high b) bits' trues'
truths_together semiring low high b bits trues others adds bits' trues' lor long long' met true_ front back =
    let add = semiring.add in
    let ts = terms_of_row semiring.multiply low b in
    let us = terms_of_row semiring.multiply high b in
    let on = on_bool add lor in
    let zero : identity_of add.kind add.op.domain ≡ truth false = rw lor refl in
    record {
      sums_are = λ col within.
          let m = has_bit bits col in
          let n = has_bit others col in
          let p = has_bit trues col in
          let q = has_bit adds col in
          rw (met col, true_ col)
          (ap (λ w. cond (m || n) (Some w) None) (sym (lor_truths add.op p q on.0 on.1))
          ∙ place_sum add (words_at col ts) (words_at col us) m n (truth p) (truth q)
          (sums_of_words semiring col low b) (sums_of_words semiring col high b) (front.sums_are col (omega arith)) (back.sums_are col (omega arith))
          (λ none. ap truth (front.others_are col none) ∙ sym zero) (λ none. ap truth (back.others_are col none) ∙ sym zero)
          ∙ ap (reduce (apply add.op)) (sym (words_at-append col ts us)));
      others_are = λ col none.
          let both = none_marked (has_bit bits col) (has_bit others col) (sym (met col) ∙ none) in
          true_ col ∙ rw (front.others_are col both.0, back.others_are col both.1) refl;
    }

-- ---- rows of A side by side

module _ (f : Factors) (first cut past : ℕ) (le : first ≤ cut) (le' : cut ≤ past) where
  terms_beside : terms_between f first past ≡ terms_between f first cut ++ terms_between f cut past
  terms_beside =
      let mul = f.semiring.multiply in
      let c = transposed_content (word_at f.u.now.entries) in
      let a = f.a.now in
      let m = cut - first in
      let n = past - cut in
      let at : first + m ≡ cut = omega arith in
      let all : past - first ≡ m + n = omega arith in
      ap (λ k. terms_of_row mul (row_part c 0 first k) a) all ∙ terms_append mul c a first m n
      ∙ ap (λ k. terms_of_row mul (row_part c 0 first m) a ++ terms_of_row mul (row_part c 0 k n) a) at

  pub words_beside : (low high sums : WordSums) → AreWordsOf f (terms_between f first cut) low
      → AreWordsOf f (terms_between f cut past) high → length sums.marks.items ≡ length low.marks.items
      → length sums.words.items ≡ length low.words.items
      → ((at : ℕ) → at < length low.words.items → get_or sums.marks.items at false ≡ (get_or low.marks.items at false || get_or high.marks.items at false))
      → ((at : ℕ) → at < length low.words.items → get_or sums.words.items at 0 ≡ apply f.semiring.add.op (get_or low.words.items at 0) (get_or high.words.items at 0))
      → AreWordsOf f (terms_between f first past) sums
  words_beside low high sums front back marks_long words_long marked summed =
      let c = transposed_content (word_at f.u.now.entries) in
      record {
        other = front.other;
        mark_each = marks_long ∙ front.mark_each;
        word_each = words_long ∙ front.word_each;
        sums_are = subst (λ ts. AreMarkedSums f.semiring.add ts sums.marks.items sums.words.items) (sym terms_beside)
            (sums_together f.semiring (row_part c 0 first (cut - first)) (row_part c 0 cut (past - cut)) f.a.now low.marks.items high.marks.items sums.marks.items low.words.items high.words.items sums.words.items
            (back.word_each ∙ sym front.word_each) words_long marked summed front.sums_are back.sums_are);
      }

  pub truths_beside : (low high sums : TruthSums) → AreTruthsOf f (terms_between f first cut) low
      → AreTruthsOf f (terms_between f cut past) high → length sums.bits.items ≡ length low.bits.items
      → length sums.trues.items ≡ length low.trues.items
      → ((at : ℕ) → has_bit sums.bits.items at ≡ (has_bit low.bits.items at || has_bit high.bits.items at))
      → ((at : ℕ) → has_bit sums.trues.items at ≡ (has_bit low.trues.items at || has_bit high.trues.items at))
      → AreTruthsOf f (terms_between f first past) sums
  truths_beside low high sums front back bits_long trues_long met true_ =
      let c = transposed_content (word_at f.u.now.entries) in
      let bit_each = front.bit_each in
      let other_each = back.bit_each in
      let true_each = front.true_each in
      record {
        lor = front.lor;
        bit_each = omega arith;
        true_each = omega arith;
        sums_are = subst (λ ts. AreTruths f.semiring.add.op ts sums.bits.items sums.trues.items) (sym terms_beside)
            (truths_together f.semiring (row_part c 0 first (cut - first)) (row_part c 0 cut (past - cut)) f.a.now low.bits.items low.trues.items high.bits.items high.trues.items sums.bits.items sums.trues.items
            front.lor (omega arith) bits_long met true_ front.sums_are back.sums_are);
      }

-- they are in one form
pub are_alike : (f : Factors) (first cut past : ℕ) (low high : Sums) → AreSumsOf f first cut low
    → AreSumsOf f cut past high → AreAlike low high
are_alike f first cut past (Words low) (Words high) front back =
    (back.mark_each ∙ sym front.mark_each, (back.word_each ∙ sym front.word_each, front.mark_each ∙ sym front.word_each))
are_alike f first cut past (Truths low) (Truths high) front back =
    let bit_each = front.bit_each in
    let other_bit_each = back.bit_each in
    let true_each = front.true_each in
    let other_true_each = back.true_each in
    (omega arith, omega arith)
are_alike f first cut past (Words low) (Truths high) front back = absurd (front.other back.lor)
are_alike f first cut past (Truths low) (Words high) front back = absurd (back.other front.lor)

-- the terms of all rows
pub all_terms : (f : Factors) (past : ℕ)
    → terms_between f 0 past ≡ terms_of_row f.semiring.multiply (row_entries past (transposed_content (word_at f.u.now.entries)) 0) f.a.now
all_terms f past = let all : past - 0 ≡ past = omega arith in rw all refl

-- ---- marks as bits

pub marked_sums : (add : Monoid) (terms : List Term) (marks : List Bool) (bits words : List ℕ)
    → length marks ≡ length words
    → ((at : ℕ) → at < length marks → has_bit bits at ≡ get_or marks at false)
    → AreMarkedSums add terms marks words → AreColumnSums add.op terms bits words
marked_sums add terms marks bits words long same here = record {
  sums_are = λ col inside. rw (same col (omega arith)) (here.sums_are col inside);
}
