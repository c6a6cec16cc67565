mod HeldAnswers
mod HeldBytes
