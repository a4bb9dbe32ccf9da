-- A process's code, as it is written: the prelude's and then the loop's.
use Rattle.std.proofs.Common.{◌≡◌, ℕ, List, [], ◌++◌, length, ap, ◌∙◌}
use Rattle.kahn_net.specs.Common.{Block, Code, sites_of}
use Rattle.proc_code.specs.declared.instruction.Instruction.{Instruction}
use Rattle.proc_code.specs.declared.instruction.Site.{Site}
use Rattle.proc_code.specs.Translation.{block_code, sites_at, loop_code, loop_sites, process_code, process_sites}
use Rattle.proc_code.specs.Translation.{greatest_height, greatest_nesting, FlatCode, flat_code}
use Rattle.proc_code.specs.Laws.Sites.{length_sites}

module _ (code : Code) (block : Block) (c0 c1 c2 : List Instruction) (e0 e1 e2 : List Site)
    (block_is : block ≡ code.prelude) (none : c0 ≡ []) (no_sites : e0 ≡ [])
    (first : c1 ≡ c0 ++ block_code (length c0) (length e0) block)
    (first_sites_are : e1 ≡ e0 ++ sites_at (length c0) (length e0) block) where
  is_first : c1 ≡ block_code 0 0 code.prelude
  is_first =
      first ∙ ap (λ (l : List Instruction). l ++ block_code (length l) (length e0) block) none
      ∙ ap (λ (l : List Site). block_code 0 (length l) block) no_sites ∙ ap (block_code 0 0) block_is

  are_first : e1 ≡ sites_at 0 0 code.prelude
  are_first =
      first_sites_are ∙ ap (λ (l : List Site). l ++ sites_at (length c0) (length l) block) no_sites
      ∙ ap (λ (l : List Instruction). sites_at (length l) 0 block) none ∙ ap (sites_at 0 0) block_is

  counted : length e1 ≡ sites_of code.prelude
  counted = ap (length {A = Site}) are_first ∙ length_sites code.prelude 0 0

  pub whole_code : c2 ≡ c1 ++ loop_code (length c1) (length e1) code.body → c2 ≡ process_code code
  whole_code e =
      e ∙ ap (λ (n : ℕ). c1 ++ loop_code (length c1) n code.body) counted
      ∙ ap (λ (l : List Instruction). l ++ loop_code (length l) (sites_of code.prelude) code.body) is_first

  pub whole_sites : e2 ≡ e1 ++ loop_sites (length c1) (length e1) code.body → e2 ≡ process_sites code
  whole_sites e =
      e ∙ ap (λ (n : ℕ). e1 ++ loop_sites (length c1) n code.body) counted
      ∙ ap (λ (l : List Instruction). e1 ++ loop_sites (length l) (sites_of code.prelude) code.body) is_first
      ∙ ap (λ (l : List Site). l
      ++ loop_sites (length (block_code 0 0 code.prelude)) (sites_of code.prelude) code.body) are_first

  pub whole : c2 ≡ c1 ++ loop_code (length c1) (length e1) code.body
      → e2 ≡ e1 ++ loop_sites (length c1) (length e1) code.body
      → (deepest nesting : ℕ) (written : List Instruction) → written ≡ c2 → deepest ≡ greatest_height 0 0 written
      → (again : List Instruction) → again ≡ c2 → nesting ≡ greatest_nesting 0 0 again
      → (let made : FlatCode = record { instructions = c2; sites = e2; deepest = deepest; nesting = nesting } in made)
      ≡ flat_code code
  whole e f deepest nesting written same is again same_again is_nested =
      let code_is = whole_code e in
      let sites_are = whole_sites f in
      let deep : deepest ≡ greatest_height 0 0 (process_code code) = is ∙ ap (greatest_height 0 0) (same ∙ code_is) in
      let nested : nesting ≡ greatest_nesting 0 0 (process_code code) =
      is_nested ∙ ap (greatest_nesting 0 0) (same_again ∙ code_is) in
      λ i. record { instructions = code_is i; sites = sites_are i; deepest = deep i; nesting = nested i }
