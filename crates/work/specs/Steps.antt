-- The steps of a command, their counts and the work sum.
use Rattle.std.specs.Prelude.{cond, List, [], ◌∷◌, ◌++◌, ℕ, ◌+◌, ◌*◌, ◌%◌, ◌^◌, eqb}
use Rattle.work.specs.declared.Kind.{Kind}
use Rattle.work.specs.declared.Kind.TheVariants.{Comparison, Decipherment, Encipherment, Expansion, HashBlock}

-- a step has a "kind, key, input and output"
pub record Step : Type 0 where
  pub kind : ℕ
  pub key : List ℕ
  pub input : List ℕ
  pub output : List ℕ

-- "Kinds are 1 comparison, 2 decipherment, 3 encipherment, 4 expansion, 5 hash block."
abbrev pub comparison : ℕ
comparison = 1

abbrev pub decipherment : ℕ
decipherment = 2

abbrev pub encipherment : ℕ
encipherment = 3

abbrev pub expansion : ℕ
expansion = 4

abbrev pub hash_block : ℕ
hash_block = 5

abbrev pub number_of_kind : Kind → ℕ
number_of_kind Comparison = comparison
number_of_kind Decipherment = decipherment
number_of_kind Encipherment = encipherment
number_of_kind Expansion = expansion
number_of_kind HashBlock = hash_block

-- "Each [count] is the number of steps of its kind in the list above."
abbrev pub counted : ℕ → List Step → ℕ
counted k [] = 0
counted k (t ∷ ts) = cond (eqb t.kind k) 1 0 + counted k ts

-- "each byte b of the step's kind, key, input and output"
abbrev pub bytes_of : Step → List ℕ
bytes_of t = t.kind ∷ (t.key ++ t.input ++ t.output)

-- "the sum s becomes (257s + b + 1) mod 2^32"
unfoldable pub mixed : ℕ → ℕ → ℕ
mixed s b = (257 * s + b + 1) % 2 ^ 32

abbrev pub mixed_all : ℕ → List ℕ → ℕ
mixed_all s [] = s
mixed_all s (b ∷ bs) = mixed_all (mixed s b) bs

-- "for each step in order"
abbrev pub sum_from : ℕ → List Step → ℕ
sum_from s [] = s
sum_from s (t ∷ ts) = sum_from (mixed_all s (bytes_of t)) ts

-- "It starts at 0"; "Without steps the sum is 0."
abbrev pub work_sum : List Step → ℕ
work_sum steps = sum_from 0 steps
