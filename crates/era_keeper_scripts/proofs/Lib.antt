mod BenchSteps
