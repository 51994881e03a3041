-- An application, what is kept beside it, its live build, and the finalization that goes on.
pub record Owner (A S D F : Type 0) : Type 0 where
  pub application : A
  pub state : S
  pub build : D
  pub front : F
